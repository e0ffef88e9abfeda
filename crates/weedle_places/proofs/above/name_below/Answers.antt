use Rattle.std.proofs.Common.{◌≡◌, ℕ, ◌+◌, ◌<◌, ◌++◌, ◌∷◌, [], List, length, true, sym, subst, ◌∙◌, ap, arith, length-append, get_or}
use Rattle.std.proofs.lemmas.List.{get_or_default}
use Rattle.weedle_syntax.specs.Tree.{node_at}
use Rattle.weedle_syntax.specs.Dialects.{IsFrontIn}
use Rattle.weedle_syntax.specs.Syntax.{root_to}
use Rattle.weedle_syntax.specs.declared.node.Node.{Node}
use Rattle.weedle_places.specs.declared.above.Above.{Above}
use Rattle.weedle_places.specs.Above.{IsAbove, AreAbove}
use Rattle.weedle_places.specs.Names.{is_name}
use Rattle.weedle_places.specs.Roles.{role_of}
use Rattle.weedle_places.proofs.NameFacts.{child_role, name_is_deep}
use Rattle.weedle_places.proofs.AboveFacts.{above_of, above_last, above_push, all_still, child_is, now_named}
use Rattle.weedle_places.proofs.above.name_below.Goals as goal

-- the last of those above node i, which is a name, is the node that reads it directly
record Last (ns : List Node) (i : ℕ) (less : List Above) (a : Above) : Type 0 where
  others : AreAbove ns i 0 less
  is : IsAbove ns i (length less) a
  deep : (node_at ns i).depth ≡ length less + 1

last_of : (ns : List Node) (i : ℕ) (above less : List Above) (a : Above) → above ≡ less ++ a ∷ [] → AreAbove ns i 0 above → length above ≡ (node_at ns i).depth → Last ns i less a
last_of ns i above less a e h m =
    let k = above_last ns i 0 less a (subst (AreAbove ns i 0) e h) in
    let many = ap length e ∙ length-append less (a ∷ []) in
    let none : 0 + length less ≡ length less = omega arith in
    record { others = k.0; is = subst (λ z. IsAbove ns i z a) none k.1; deep = omega arith }

marked : (ns : List Node) (i : ℕ) (less new : List Above) (a : Above) → i < length ns → is_name ns i ≡ true → Last ns i less a → new ≡ less ++ above_of a.node true ∷ [] → AreAbove ns (i + 1) 0 new
marked ns i less new a l is h e =
    let deep = h.deep in
    let none : length less ≡ 0 + length less = omega arith in
    let on = now_named ns i (length less) a h.is (omega arith) l deep is in
    subst (AreAbove ns (i + 1) 0) (sym e) (above_push ns (i + 1) 0 less (above_of a.node true)
    (all_still ns i 0 less h.others (omega arith) (λ z. absurd (omega arith)))
    (subst (λ z. IsAbove ns (i + 1) z (above_of a.node true)) none on))

rule_found : (nodes ns : List Node) (k : ℕ) (n : Node) → nodes ≡ ns → k < length ns → (get_or nodes k n).rule ≡ (node_at ns k).rule
rule_found nodes ns k n e l = ap (λ s. (get_or s k n).rule) e ∙ ap (λ m. m.rule) (get_or_default ns k n (root_to 0) l)

pub unreachable-requires : goal.unreachable-requires
unreachable-requires c =
    let ns = c.args.syntax.now.nodes in
    let front = subst (IsFrontIn c.args.syntax.now.dialect c.args.syntax.now.text) c.nodes-nodes.ensures.are c.nodes-nodes.ensures.front in
    let deep = name_is_deep c.args.syntax.now.dialect c.args.syntax.now.text ns front c.args.i c.requires.within c.requires.name in
    let many = c.requires.many in
    let items = c.args.above.now.ok.0 in
    let some = c.in_default.ensures.variant.1 (omega (arith, deep, many)) in
    absurd (let n : ⊥ = cc in n)

pub offset_bounds-nodes-last : goal.offset_bounds-nodes-last
offset_bounds-nodes-last c =
    let h = last_of c.args.syntax.now.nodes c.args.i c.args.above.now.items c.pop.new.self.items c.in-Some.last c.in-Some.ensures.items c.requires.above c.requires.many in
    let b = h.is.before in
    let within = c.requires.within in
    omega (arith, b, within, ap length c.nodes-nodes.ensures.are, c.nodes-nodes.type_inv.1)

pub bounds-nodes-last : goal.bounds-nodes-last
bounds-nodes-last c =
    let h = last_of c.args.syntax.now.nodes c.args.i c.args.above.now.items c.pop.new.self.items c.in-Some.last c.in-Some.ensures.items c.requires.above c.requires.many in
    let b = h.is.before in
    let within = c.requires.within in
    omega (arith, b, within, ap length c.nodes-nodes.ensures.are)

pub bounds-nodes-last-in-Some : goal.bounds-nodes-last-in-Some
bounds-nodes-last-in-Some c =
    let h = last_of c.args.syntax.now.nodes c.args.i c.args.above.now.items c.pop.new.self.items c.in-Some.last c.in-Some.ensures.items c.requires.above c.requires.many in
    let b = h.is.before in
    let within = c.requires.within in
    omega (arith, b, within, ap length c.nodes-nodes.ensures.are)

pub unreachable-requires-in_default-role_of : goal.unreachable-requires-in_default-role_of
unreachable-requires-in_default-role_of c =
    let ns = c.args.syntax.now.nodes in
    let front = subst (IsFrontIn c.args.syntax.now.dialect c.args.syntax.now.text) c.nodes-nodes.ensures.are c.nodes-nodes.ensures.front in
    let h = last_of ns c.args.i c.args.above.now.items c.pop.new.self.items c.in-Some.last c.in-Some.ensures.items c.requires.above c.requires.many in
    let b = h.is.before in
    let deep = h.deep in
    let within = c.requires.within in
    let child = child_is ns c.args.i (length c.pop.new.self.items) c.in-Some.last h.is (omega arith) within deep in
    let here : c.in-Some.last.node < length ns = omega arith in
    let role = child_role c.args.syntax.now.dialect c.args.syntax.now.text ns front c.in-Some.last.node here c.args.i c.in-Some.last.named child c.requires.name in
    c.in_default-role_of.not-Some role.0
    (c.role_of.ensures ∙ ap (λ r. role_of r c.in-Some.last.named) (rule_found c.nodes-nodes.result.now ns c.in-Some.last.node _ c.nodes-nodes.ensures.are here) ∙ role.1)

pub returns-clause-above : goal.returns-clause-above
returns-clause-above c =
    let h = last_of c.args.syntax.now.nodes c.args.i c.args.above.now.items c.pop.new.self.items c.in-Some.last c.in-Some.ensures.items c.requires.above c.requires.many in
    marked c.args.syntax.now.nodes c.args.i c.pop.new.self.items c.push.new.self.items c.in-Some.last c.requires.within c.requires.name h c.in_ok-push.ensures.items

pub returns-clause-role : goal.returns-clause-role
returns-clause-role c =
    let ns = c.args.syntax.now.nodes in
    let h = last_of ns c.args.i c.args.above.now.items c.pop.new.self.items c.in-Some.last c.in-Some.ensures.items c.requires.above c.requires.many in
    let deep = h.deep in
    let b = h.is.before in
    let within = c.requires.within in
    let here : c.in-Some.last.node < length ns = omega arith in
    record {
      above = c.in-Some.last.node;
      child = child_is ns c.args.i (length c.pop.new.self.items) c.in-Some.last h.is (omega arith) c.requires.within deep;
      later = c.in-Some.last.named;
      is_later = h.is.named;
      is = sym (ap (λ r. role_of r c.in-Some.last.named) (rule_found c.nodes-nodes.result.now ns c.in-Some.last.node _ c.nodes-nodes.ensures.are here)) ∙ sym c.role_of.ensures ∙ c.in-Some-role_of.is;
    }
