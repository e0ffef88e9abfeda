-- Nodes of rules that are read one after another.
use Rattle.std.proofs.Common.{◌≡◌, ◌≢◌, ◌⊎◌, inl, inr, ℕ, zero, suc, ◌<◌, ◌≤◌, List, [], ◌∷◌, ◌++◌, length, get_or, true, false, Option, Some, None, refl, sym, subst, ◌∙◌, ap, arith}
use Rattle.weedle_grammar.specs.Rows.{Seq}
use Rattle.weedle_grammar.specs.Trees.{Tree, Gives}
use Rattle.weedle_grammar.specs.Meaning.{Piece, piece, with_piece, last_end, gave_some, ReadsSeq, seq_end, seq_more}
use Rattle.weedle_grammar.specs.written.Table.{webidl, row_of, Reads}
use Rattle.weedle_grammar.proofs.Takes.{takes}
use Rattle.weedle_grammar.proofs.Checked.{ranked}
use Rattle.weedle_grammar.proofs.Exists.{stays_inside}
use Rattle.weedle_grammar.proofs.Inversion.{of_parts}
use Rattle.weedle_grammar.proofs.Unique.{one_seq}
use Rattle.weedle_rules.proofs.RowEnds.{SeqEnds, piece_end, pieces_end, seq_ends, rule_ends}
use Rattle.weedle_rules.proofs.ConditionEnds.{present}
use Rattle.weedle_rules.proofs.FewReads.{Switch}
use Rattle.weedle_rules.specs.Outcomes.{EndsAt}
use Rattle.weedle_rules.proofs.OutcomeFacts.{it_ends, one_end}
use Rattle.weedle_syntax.specs.declared.node.Node.{Node}
use Rattle.weedle_syntax.specs.Parts.{IsNode, AreInTurn}
use Rattle.weedle_syntax.specs.Laid.{node}

pub is_node : (text : List ℕ) (r d p e : ℕ) → EndsAt text r p e → IsNode text r d p (node r p e d)
is_node text r d p e h = record { rule_is = refl; depth_is = refl; start_is = refl; reads = h }

-- where they end
pub turn_ends : (text rs : List ℕ) (d p e : ℕ) (ns : List Node) → AreInTurn text rs d p e ns → SeqEnds webidl text rs p (Some e)
turn_ends text [] d p e ns (i, is) = record { pieces = Some []; reads = seq_end refl; is = ap Some is }
turn_ends text (r ∷ rs) d p e [] h = absurd h
turn_ends text (r ∷ rs) d p e (n ∷ ns) (i, h) =
    let k = turn_ends text rs d n.end e ns h in
    let g = i.reads in
    record { pieces = with_piece (piece g.0 n.end) k.pieces; reads = seq_more g.1 k.reads refl; is = k.is ∙ sym (piece_end p n.end g.0 k.pieces) }

-- a sequence ends where its nodes do
pub sequence_end : (text : List ℕ) (r d p e z : ℕ) (parts : List ℕ) (ns : List Node) → row_of r ≡ Seq parts → EndsAt text r p z → AreInTurn text parts d p e ns → e ≡ z
sequence_end text r d p e z parts ns is h a = one_end h (it_ends (rule_ends is (seq_ends webidl text parts p (Some e) (turn_ends text parts d p e ns a))))

pub turn_end_is : (text rs : List ℕ) (d p e : ℕ) (ns : List Node) (pieces : List Piece) → AreInTurn text rs d p e ns → ReadsSeq webidl text rs p (Some pieces) → e ≡ last_end p pieces
turn_end_is text rs d p e ns pieces a h =
    let k = turn_ends text rs d p e ns a in
    let m : Some e ≡ Some (last_end p pieces) = k.is ∙ ap (pieces_end p) (one_seq k.reads h refl) in
    cc

pub turn_inside : (text rs : List ℕ) (d p e : ℕ) (ns : List Node) → AreInTurn text rs d p e ns → p ≤ length text → e ≤ length text
turn_inside text [] d p e ns (i, is) l = omega arith
turn_inside text (r ∷ rs) d p e [] h l = absurd h
turn_inside text (r ∷ rs) d p e (n ∷ ns) (i, h) l = turn_inside text rs d n.end e ns h (stays_inside webidl text i.reads.1 l)

pub turn_length : (text rs : List ℕ) (d p e : ℕ) (ns : List Node) → AreInTurn text rs d p e ns → length ns ≡ length rs
turn_length text [] d p e ns (i, is) = ap length i
turn_length text (r ∷ rs) d p e [] h = absurd h
turn_length text (r ∷ rs) d p e (n ∷ ns) (i, h) = ap suc (turn_length text rs d n.end e ns h)

pub turn_append : (text rs ss : List ℕ) (d p q e : ℕ) (ns ms : List Node) → AreInTurn text rs d p q ns → AreInTurn text ss d q e ms → AreInTurn text (rs ++ ss) d p e (ns ++ ms)
turn_append text [] ss d p q e ns ms (i, is) k = subst (λ xs. AreInTurn text ss d p e (xs ++ ms)) (sym i) (subst (λ z. AreInTurn text ss d z e ms) is k)
turn_append text (r ∷ rs) ss d p q e [] ms h k = absurd h
turn_append text (r ∷ rs) ss d p q e (n ∷ ns) ms (i, h) k = (i, turn_append text rs ss d n.end q e ns ms h k)

-- one node
pub one_node : (text : List ℕ) (r d p e : ℕ) → EndsAt text r p e → AreInTurn text (r ∷ []) d p e (node r p e d ∷ [])
one_node text r d p e h = (is_node text r d p e h, (refl, refl))

-- the node of the part that a condition looks at takes something exactly where the part gives something
abbrev pub Tells : List Piece → ℕ → Node → Type 0
Tells pieces k n = ((n.start ≡ n.end) × (gave_some k pieces ≡ false)) ⊎ ((n.start ≢ n.end) × (gave_some k pieces ≡ true))

tells_first : (text : List ℕ) (r d p : ℕ) (rs : List ℕ) (pieces : List Piece) (n : Node) → IsNode text r d p n → Switch r → ReadsSeq webidl text (r ∷ rs) p (Some pieces) → Tells pieces 0 n
tells_first text r d p rs pieces n i s h = elim (of_parts h) [
  | inl k ↦ (let a = k.1 in let z : ⊥ = cc in absurd z)
  | inr (ts, q, v, given, more, is) ↦ by_first ts q v given is
]
  where
    by_first : (ts : List Tree) (q : ℕ) (v : Option (List Piece)) → Reads text r p (Gives ts q) → Some pieces ≡ with_piece (piece ts q) v → Tells pieces 0 n
    by_first ts q None g is = cc
    by_first ts q (Some ps) g is =
        let same : pieces ≡ piece ts q ∷ ps = cc in
        let there : q ≡ n.end = one_end i.reads (ts, g) in
        elim (present webidl text takes ranked r s.x p q ts s.row_is s.shape_is s.mark_is s.takes_it g) [
          | inl k ↦ inl (i.start_is ∙ sym k.0 ∙ there, ap (gave_some 0) same ∙ k.1)
          | inr k ↦ inr (λ e. k.0 (there ∙ sym e ∙ i.start_is), ap (gave_some 0) same ∙ k.1)
        ]

pub tells : (text rs : List ℕ) (d p e k : ℕ) (ns : List Node) (pieces : List Piece) (m : Node) → AreInTurn text rs d p e ns → ReadsSeq webidl text rs p (Some pieces) → k < length rs → Switch (get_or rs k 0) → Tells pieces k (get_or ns k m)
tells text [] d p e k ns pieces m a h l s = absurd (omega arith)
tells text (r ∷ rs) d p e k [] pieces m a h l s = absurd a
tells text (r ∷ rs) d p e zero (n ∷ ns) pieces m (i, a) h l s = tells_first text r d p rs pieces n i s h
tells text (r ∷ rs) d p e (suc k) (n ∷ ns) pieces m (i, a) h l s = elim (of_parts h) [
  | inl b ↦ (let c = b.1 in let z : ⊥ = cc in absurd z)
  | inr (ts, q, v, given, more, is) ↦ behind (λ ps f. tells text rs d n.end e k ns ps m a f (omega arith) s) ts q v given more is
]
  where
    behind : ((ps : List Piece) → ReadsSeq webidl text rs n.end (Some ps) → Tells ps k (get_or ns k m)) → (ts : List Tree) (q : ℕ) (v : Option (List Piece)) → Reads text r p (Gives ts q) → ReadsSeq webidl text rs q v → Some pieces ≡ with_piece (piece ts q) v → Tells pieces (suc k) (get_or ns k m)
    behind on ts q None g more is = cc
    behind on ts q (Some ps) g more is =
        let same : pieces ≡ piece ts q ∷ ps = cc in
        let there : q ≡ n.end = one_end i.reads (ts, g) in
        let t = on ps (subst (λ z. ReadsSeq webidl text rs z (Some ps)) there more) in
        elim t [
          | inl w ↦ inl (w.0, ap (gave_some (suc k)) same ∙ w.1)
          | inr w ↦ inr (w.0, ap (gave_some (suc k)) same ∙ w.1)
        ]
