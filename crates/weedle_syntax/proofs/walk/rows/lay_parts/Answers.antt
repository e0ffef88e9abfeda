use Rattle.std.proofs.Common.{sym}
use Rattle.weedle_starts.proofs.ReadFacts.{seq_reads, list_reads, list1_reads}
use Rattle.weedle_syntax.proofs.LayFacts.{seq_laid, list1_listed}
use Rattle.weedle_syntax.proofs.WantedFacts.{wanted_by}
use Rattle.weedle_syntax.proofs.walk.rows.lay_parts.Goals as goal

pub in_turn-requires-clause-tried : goal.in_turn-requires-clause-tried
in_turn-requires-clause-tried c = λ x q t. wanted_by c.requires.wanted c.requires.reads (sym c.in-Seq.ensures) t

pub listed-requires-clause-tried : goal.listed-requires-clause-tried
listed-requires-clause-tried c = λ x q t. wanted_by c.requires.wanted c.requires.reads (sym c.in-List.ensures) t

pub listed-requires-in-List1-clause-tried : goal.listed-requires-in-List1-clause-tried
listed-requires-in-List1-clause-tried c = λ x q t. wanted_by c.requires.wanted c.requires.reads (sym c.in-List1.ensures) t

pub in_turn-requires-clause-reads : goal.in_turn-requires-clause-reads
in_turn-requires-clause-reads c = seq_reads c.args.table.now.text c.args.node.rule c.args.node.start c.args.node.end c.requires.reads (sym c.in-Seq.ensures)

pub listed-requires-clause-reads : goal.listed-requires-clause-reads
listed-requires-clause-reads c = list_reads c.args.table.now.text c.args.node.rule c.args.node.start c.args.node.end c.requires.reads (sym c.in-List.ensures)

pub listed-requires-in-List1-clause-reads : goal.listed-requires-in-List1-clause-reads
listed-requires-in-List1-clause-reads c = list1_reads c.args.table.now.text c.args.node.rule c.args.node.start c.args.node.end c.requires.reads (sym c.in-List1.ensures)

pub returns-in_ok-in_turn-in-Seq : goal.returns-in_ok-in_turn-in-Seq
returns-in_ok-in_turn-in-Seq c = seq_laid c.args.table.now.text c.args.node.rule _ c.args.node.start _ c.args.node.end _ _ (sym c.in-Seq.ensures) c.requires.reads c.in_ok-in_turn-in-Seq.ensures

pub returns-in_ok-listed-in-List1 : goal.returns-in_ok-listed-in-List1
returns-in_ok-listed-in-List1 c = list1_listed c.args.table.now.text _ c.args.node.start c.args.node.end c.args.node.rule _ _ _ (sym c.in-List1.ensures) c.requires.reads c.in_ok-listed-in-List1.ensures
