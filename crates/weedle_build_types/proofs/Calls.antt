-- What a call of the recursive group needs of the calls before it, and what they give.
use Rattle.std.proofs.Common.{◌≡◌, ℕ, ◌<◌, ◌≤◌, List, true, Some, refl, sym, subst, arith}
use Rattle.std.specs.Prelude.{Result}
use Rattle.weedle_grammar.specs.Rows.{If, Opt}
use Rattle.weedle_grammar.specs.written.Table.{webidl, row_of, shape_of}
use Rattle.weedle_grammar.specs.Trees.{Tree}
use Rattle.weedle_grammar.specs.Meaning.{Plain}
use Rattle.weedle_grammar.proofs.Takes.{takes}
use Rattle.weedle_grammar.proofs.Checked.{ranked}
use Rattle.weedle_grammar.proofs.Exists.{advances, grows}
use Rattle.weedle_build_base.specs.Built.{Answers, Builds, Due, IsTried, Rest}
use Rattle.weedle_build_base.specs.declared.at.At.{At}
use Rattle.weedle_build_types.specs.Steps.{IsOption, Keeps}
use Rattle.weedle_rules.specs.Cells.{HasEnd}
use Rattle.weedle_build_base.proofs.Finding.{found}
use Rattle.weedle_build_base.proofs.Separated.{Listing}
use Rattle.weedle_build_base.proofs.Sequences.{row_rest}
use Rattle.weedle_build_base.proofs.WantedFacts.{option_tried}

-- what takes a byte ends behind its place
pub behind : {text : List ℕ} {r p v q w : ℕ} {t : Tree} → takes r ≡ true → Builds text r t p v q w → p < q
behind {text} {r} {p} {v} {q} {w} {t} e g = advances webidl text (λ x. x) takes ranked g.reads e

-- nothing ends before its place
pub not_before : {text : List ℕ} {r p v q w : ℕ} {t : Tree} → Builds text r t p v q w → p ≤ q
not_before {text} {r} {p} {v} {q} {w} {t} g = grows webidl text g.reads

-- where an option is due, its item is tried
pub item_tried : {text : List ℕ} {x r p : ℕ} → row_of r ≡ Opt x → Due text r p → IsTried text x p
item_tried row d = option_tried d (sym row)

-- a rule that takes another, or nothing
pub option_of : {x r : ℕ} → row_of r ≡ Opt x → shape_of r ≡ Plain → IsOption x r
option_of row shape = record { row = row; shape = shape }

-- the parts of a row whose last depends on a condition
pub rest_of_if : {text rs : List ℕ} {r p k y : ℕ} → Due text r p → row_of r ≡ If rs k y → Rest text rs p
rest_of_if {text} {rs} {r} {p} {k} {y} d row = row_rest d (If rs k y) row refl

-- what builds a tree builds one that equals it
pub builds_as : {text : List ℕ} {r p v q w : ℕ} {t u : Tree} → t ≡ u → Builds text r u p v q w → Builds text r t p v q w
builds_as {text} {r} {p} {v} {q} {w} {t} {u} e g = subst (λ x. Builds text r x p v q w) (sym e) g

-- an item behind a separator follows the place of the list
pub listing_behind : {text : List ℕ} {x s p v : ℕ} {ts : List Tree} {q w k : ℕ} → takes s ≡ true → Listing text x s p v ts q w → HasEnd text s q (Some k) → p < k
listing_behind {text} {x} {s} {p} {v} {ts} {q} {w} {k} t h e =
    let f = found e in
    let a : q < k = advances webidl text (λ x. x) takes ranked f.reads t in
    let b : p ≤ h.place = grows webidl text h.head.reads in
    omega (arith, h.tail.after)

-- what was put into a list is what was built
pub kept : {V E : Type 0} {text : List ℕ} {r p v : ℕ} {old new : List V} {built : Result (V × At) E} {at : At} (tree : V → Tree)
    → (k : Keeps old new built at) → Answers text r tree p v built → Builds text r (tree k.value) p v at.place at.visits
kept {V} {E} {text} {r} {p} {v} {old} {new} {built} {at} tree k a = subst (λ b. Answers text r tree p v b) k.was a
