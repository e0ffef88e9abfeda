use Rattle.weedle_recovery.proofs.stops.starts.Goals as goal

pub returns-in-Body-clause-yes : goal.returns-in-Body-clause-yes
returns-in-Body-clause-yes c = rw c.in-Body.is c.begins.ensures.yes

pub returns-in-Body-clause-no : goal.returns-in-Body-clause-no
returns-in-Body-clause-no c = rw c.in-Body.is c.begins.ensures.no

pub returns-in-Definition-clause-yes : goal.returns-in-Definition-clause-yes
returns-in-Definition-clause-yes c = rw c.in-Definition.is c.begins-in-Definition.ensures.yes

pub returns-in-Definition-clause-no : goal.returns-in-Definition-clause-no
returns-in-Definition-clause-no c = rw c.in-Definition.is c.begins-in-Definition.ensures.no

pub returns-in-Member-clause-yes : goal.returns-in-Member-clause-yes
returns-in-Member-clause-yes c = rw c.in-Member.is c.member_starts.ensures.yes

pub returns-in-Member-clause-no : goal.returns-in-Member-clause-no
returns-in-Member-clause-no c = rw c.in-Member.is c.member_starts.ensures.no
