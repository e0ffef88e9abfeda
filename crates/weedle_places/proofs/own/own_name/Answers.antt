use Rattle.std.proofs.Common.{◌≡◌, None, sym, subst, ◌∙◌}
use Rattle.weedle_syntax.specs.Tree.{children_of}
use Rattle.weedle_places.specs.Around.{name_among, name_of_kind_in}
use Rattle.weedle_places.proofs.OwnFacts.{own_of_kind}
use Rattle.weedle_places.proofs.own.own_name.Goals as goal

pub returns-in-Weedle2 : goal.returns-in-Weedle2
returns-in-Weedle2 c =
    let ns = c.args.syntax.now.nodes in
    let cs = children_of ns c.args.node in
    let none : name_among ns cs ≡ None = sym c.name_among.ensures ∙ c.in_default.is in
    own_of_kind ns c.args.syntax.now.dialect c.args.node c.name_of_kind.result none
    (subst (λ d. c.name_of_kind.result ≡ name_of_kind_in d ns cs) (sym (sym c.dialect.ensures ∙ c.in-Weedle2.is)) c.name_of_kind.ensures)

pub returns-in-Today : goal.returns-in-Today
returns-in-Today c =
    let ns = c.args.syntax.now.nodes in
    let cs = children_of ns c.args.node in
    let none : name_among ns cs ≡ None = sym c.name_among.ensures ∙ c.in_default.is in
    own_of_kind ns c.args.syntax.now.dialect c.args.node c.name_behind.result none
    (subst (λ d. c.name_behind.result ≡ name_of_kind_in d ns cs) (sym (sym c.dialect.ensures ∙ c.in-Today.is)) c.name_behind.ensures)
