-- Rows with a condition: what is tried behind their parts.
use Rattle.std.proofs.Common.{◌≡◌, inl, inr, ℕ, List, Bool, true, false, Option, Some, None, refl, sym, ◌∙◌, ap}
use Rattle.weedle_grammar.specs.Rows.{If}
use Rattle.weedle_grammar.specs.Meaning.{Piece, ReadsSeq, last_end}
use Rattle.weedle_grammar.specs.written.Table.{webidl, row_of}
use Rattle.weedle_grammar.proofs.Unique.{one_seq}
use Rattle.weedle_rules.proofs.RowEnds.{pieces_end}
use Rattle.weedle_rules.proofs.ConditionEnds.{NoteEnds, noted}
use Rattle.weedle_starts.specs.Tries.{SameAttempt, EndsWith, TriesInTurn, RowTries, Tries}
use Rattle.weedle_refusal.specs.Marks.{Adds}
use Rattle.weedle_refusal.proofs.AddingFacts.{set_out, go_on, finish, by_its_row}

same_pieces : (ps qs : List Piece) → Some ps ≡ Some qs → ps ≡ qs
same_pieces ps qs h = cc

-- the parts end at one place
pub one_end : (text parts : List ℕ) (k p e q : ℕ) → EndsWith text parts k p e → EndsWith text parts k p q → e ≡ q
one_end text parts k p e q h m =
    let s : h.0 ≡ m.0 = same_pieces _ _ (one_seq h.1 m.1 refl) in
    h.3 ∙ ap (last_end p) s ∙ sym m.3

pub breaks_off : (text parts : List ℕ) (k p q : ℕ) (b : Bool) → NoteEnds webidl text (inl k) parts p None b → EndsWith text parts k p q → ⊥
breaks_off text parts k p q b n h = off n.pieces n.reads n.is
  where
    off : (o : Option (List Piece)) → ReadsSeq webidl text parts p o → None ≡ pieces_end p o → ⊥
    off None d i = let s = one_seq d h.1 refl in cc
    off (Some ps) d i = cc

pub ends_so : (text parts : List ℕ) (k p q : ℕ) → NoteEnds webidl text (inl k) parts p (Some q) true → EndsWith text parts k p q
ends_so text parts k p q n = so n.pieces n.reads n.is n.note_is
  where
    so : (o : Option (List Piece)) → ReadsSeq webidl text parts p o → Some q ≡ pieces_end p o → ((ps : List Piece) → o ≡ Some ps → noted webidl text (inl k) ps ≡ true) → EndsWith text parts k p q
    so None d i f = cc
    so (Some ps) d i f = (ps, d, f ps refl, cc)

pub gave_none : (text parts : List ℕ) (k p q e : ℕ) → NoteEnds webidl text (inl k) parts p (Some q) false → EndsWith text parts k p e → ⊥
gave_none text parts k p q e n h = without n.pieces n.reads n.note_is
  where
    without : (o : Option (List Piece)) → ReadsSeq webidl text parts p o → ((ps : List Piece) → o ≡ Some ps → noted webidl text (inl k) ps ≡ false) → ⊥
    without o d f =
        let s = one_seq d h.1 refl in
        let a = f h.0 s in
        let b = h.2 in
        cc

module _ {last : ℕ} (text : List ℕ) {old : List ℕ} (r k y p : ℕ) {parts : List ℕ} where
  pub if_ended : {new : List ℕ} → row_of r ≡ If parts k y → Adds last old new (TriesInTurn text parts p) → ((q : ℕ) → EndsWith text parts k p q → ⊥) → Adds last old new (Tries text r p)
  if_ended e a f = by_its_row r p text e (finish (set_out last old (RowTries text (If parts k y) r p)) a (λ x q t. inl t) (λ x q t. elim t [ inl i ↦ i | inr w ↦ absurd (f w.0 w.1) ]))

  pub if_went_on : {now new : List ℕ} (e : ℕ) → row_of r ≡ If parts k y → Adds last old now (TriesInTurn text parts p) → EndsWith text parts k p e → Adds last now new (SameAttempt y e) → Adds last old new (Tries text r p)
  if_went_on e is a h b = by_its_row r p text is (finish (go_on (set_out last old (RowTries text (If parts k y) r p)) (SameAttempt y e) a (λ x q t. inl t) (λ x q i. inr (e, h, i)) (λ x q t. elim t [
    | inl i ↦ inl i
    | inr w ↦ inr (w.2.0, w.2.1 ∙ one_end text parts k p w.0 e w.1 h)
  ])) b (λ x q i. i) (λ x q i. i))
