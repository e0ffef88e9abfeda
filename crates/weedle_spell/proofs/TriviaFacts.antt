-- What trivia and terminals take.
use Rattle.std.proofs.Common.{◌≡◌, ◌≢◌, ◌⊎◌, inl, inr, ℕ, zero, suc, List, [], ◌∷◌, ◌++◌, take, drop, codes, Some, refl, sym, ap, ◌∙◌, subst, arith, append_assoc}
use Rattle.weedle_grammar.proofs.Inversion.{of_not_next, of_run, of_choice}
use Rattle.weedle_grammar.proofs.Leaves.{taken_le, not_next_zero}
use Rattle.weedle_grammar.specs.Meaning.{Piece, ReadsFirst, Marked, last_end}
use Rattle.weedle_grammar.specs.Rows.{Bytes, Run, Seq, take_not_next, run_length}
use Rattle.weedle_grammar.specs.written.Table.{webidl, row_of, shape_of, Reads}
use Rattle.weedle_grammar.specs.written.Table.Keywords.{NOT_NEXT_NAME}
use Rattle.weedle_grammar.specs.written.Table.Trivia.{BYTES_SLASH_SLASH, BYTES_LF, LINE_COMMENT, NOT_NEXT_SLASH, RUN_NOT_LINE_FEED, LINE_END, NOT_NEXT_ANY, BLANKS, BLOCK_COMMENT, TRIVIA}
use Rattle.weedle_grammar.specs.Trees.{Tree, Mark, Gives}
use Rattle.weedle_grammar.specs.declared.class.Class.TheVariants.{Slash, NotLineFeed, Any}
use Rattle.weedle_spell.specs.Forms.{◌then◌, exactly, any}
use Rattle.weedle_spell.specs.Tokens.{comment_text, line_comment, blanks, block_comment, IsTrivia, word}
use Rattle.weedle_spell.proofs.Always.{Always, bytes_always, one_always, not_next_always, run_always, past_always, always_last, always_part, always_skip, seq_always, always_only, always_first, first_always, many_always}
use Rattle.weedle_spell.proofs.Given.{gave, leaf_end, pieces_of, pieced, end_on, unpieced, chosen_by, no_choice}
use Rattle.weedle_spell.proofs.RowBytes.{took_leaf, run_form}
use Rattle.weedle_spell.proofs.Spelt.{Spelt, always_spelt}
use Rattle.weedle_spell.proofs.Took.{Took, Taken, Unfinished, exact, took_as, took_then}

no_slash : (s t : List ℕ) (k n : ℕ) → take_not_next Slash s ≡ Some k → take n s ≢ 47 ∷ t
no_slash [] t k zero h e = cc
no_slash [] t k (suc n) h e = cc
no_slash (b ∷ s) t k zero h e = cc
no_slash (b ∷ s) t k (suc n) h e = let f : b ≡ 47 = cc in let g : take_not_next Slash (47 ∷ s) ≡ Some k = subst (λ (x : ℕ). take_not_next Slash (x ∷ s) ≡ Some k) f h in cc

module _ {text : List ℕ} {p q e : ℕ} {ts us : List Tree} where
  -- what follows the slashes
  comment_took : Reads text NOT_NEXT_SLASH p (Gives ts q) → Reads text RUN_NOT_LINE_FEED q (Gives us e) → Took text p e comment_text
  comment_took d m =
      let g = gave {r = NOT_NEXT_SLASH} refl d in
      let k = leaf_end p (take_not_next Slash (drop p text)) (of_not_next g.2) in
      let none_taken = not_next_zero Slash (drop p text) k.0 k.1 in
      let same : q ≡ p = omega (arith, none_taken, k.2) in
      let r = gave {r = RUN_NOT_LINE_FEED} refl (subst (λ (z : ℕ). Reads text RUN_NOT_LINE_FEED z (Gives us e)) same m) in
      let n = leaf_end p (Some (run_length NotLineFeed (drop p text))) (of_run r.2) in
      let run : run_length NotLineFeed (drop p text) ≡ n.0 = cc in
      took_leaf n.0 n.2 (taken_le (Run NotLineFeed) (drop p text) n.0 n.1)
      (subst (λ (z : ℕ). any NotLineFeed (take z (drop p text))) run (run_form NotLineFeed (drop p text)), λ t. no_slash (drop p text) t k.0 n.0 k.1)

ends_here : (s : List ℕ) (k : ℕ) → take_not_next Any s ≡ Some k → s ≡ []
ends_here [] k h = refl
ends_here (b ∷ s) k h = cc

-- an LF, or the end of the text
abbrev LineEnd : List ℕ → ℕ → ℕ → Type 0
LineEnd text p e = Took text p e (exactly (10 ∷ [])) ⊎ ((drop p text ≡ []) × (p ≡ e))

by_end : {text : List ℕ} {p e : ℕ} {ts : List Tree} → Reads text NOT_NEXT_ANY p (Gives ts e) → LineEnd text p e
by_end {text} {p} {e} d =
    let g = gave {r = NOT_NEXT_ANY} refl d in
    let k = leaf_end p (take_not_next Any (drop p text)) (of_not_next g.2) in
    let none_taken = not_next_zero Any (drop p text) k.0 k.1 in
    inr (ends_here (drop p text) k.0 k.1, omega (arith, none_taken, k.2))

by_line_feed : {text : List ℕ} {p e : ℕ} {ts : List Tree} → Reads text BYTES_LF p (Gives ts e) → LineEnd text p e
by_line_feed {text} {p} {e} {ts} d = let h : Always ⊥ BYTES_LF (exactly (10 ∷ [])) = bytes_always refl in inl (exact (h.of text p e ts d))

line_end_of : {text : List ℕ} {p e : ℕ} {us : List Tree} → ReadsFirst webidl text (BYTES_LF ∷ NOT_NEXT_ANY ∷ []) 0 p (Gives us e) → LineEnd text p e
line_end_of {text} {p} {e} d = elim (of_choice d) [
  | inl x ↦ (let z : x.1 ≡ e = cc in by_line_feed (subst (λ (k : ℕ). Reads text BYTES_LF p (Gives x.0 k)) z x.2))
  | inr x ↦ elim (of_choice x.1) [
    | inl y ↦ (let z : y.1 ≡ e = cc in by_end (subst (λ (k : ℕ). Reads text NOT_NEXT_ANY p (Gives y.0 k)) z y.2))
    | inr y ↦ no_choice y.1
  ]
]

line_end : {text : List ℕ} {p e : ℕ} {ts : List Tree} → Reads text LINE_END p (Gives ts e) → LineEnd text p e
line_end d = line_end_of (chosen_by refl d).1

slashes_first : (s t : List ℕ) → s ≡ codes "//" ++ t → s ≢ []
slashes_first [] t e = cc
slashes_first (b ∷ s) t e = λ h. cc

-- a comment without its LF is one when an LF follows
finished : (s : List ℕ) → (exactly (codes "//") then comment_text) s → Unfinished line_comment s
finished s h = (
  slashes_first s h.rest (h.is ∙ ap (λ (x : List ℕ). x ++ h.rest) h.of_first),
  record {
    first = h.first;
    rest = h.rest ++ 10 ∷ [];
    is = ap (λ (x : List ℕ). x ++ 10 ∷ []) h.is ∙ append_assoc h.first h.rest (10 ∷ []);
    of_first = h.of_first;
    of_rest = record { first = h.rest; rest = 10 ∷ []; is = refl; of_first = h.of_rest; of_rest = refl };
  },
)

comment_of : {text : List ℕ} {p q z e : ℕ} → Took text p q (exactly (codes "//")) → Took text q z comment_text → LineEnd text z e → Taken (Unit {0}) text p e line_comment
comment_of a b (inl t) = inl (took_then a (took_then b t))
comment_of {text} {p} a b (inr t) =
    subst (λ (k : ℕ). Taken (Unit {0}) text p k line_comment) t.1 (inr (tt, t.0, took_as finished (took_then a b)))

-- a line comment
pub line_comment_always : Always (Unit {0}) LINE_COMMENT line_comment
line_comment_always = record {
  of = λ text p e ts d.
      let s = pieces_of {r = LINE_COMMENT} refl d in
      let a = pieced s.1 in
      let b = pieced a.4 in
      let c = pieced b.4 in
      let f = pieced c.4 in
      let n = unpieced f.4 in
      let slashes : Always ⊥ BYTES_SLASH_SLASH (exactly (codes "//")) = bytes_always refl in
      let z : f.1 ≡ e = sym (end_on _ _ _ _ _ a.5 ∙ end_on _ _ _ _ _ b.5 ∙ end_on _ _ _ _ _ c.5 ∙ end_on _ _ _ _ _ f.5 ∙ ap (λ (ps : List Piece). last_end f.1 ps) n) ∙ s.2 in
      subst (λ (k : ℕ). Taken (Unit {0}) text p k line_comment) z
      (comment_of (exact (slashes.of text p a.1 a.0 a.3)) (comment_took b.3 c.3) (line_end f.3));
}

-- whitespace
blanks_always : {L : Type 0} → Always L BLANKS blanks
blanks_always = seq_always refl (always_part (one_always refl) (always_last (run_always refl)))

-- a block comment
block_comment_always : {L : Type 0} → Always L BLOCK_COMMENT block_comment
block_comment_always = seq_always refl (always_part (bytes_always refl) (always_last (past_always refl)))

-- trivia
pub trivia_always : Always (Unit {0}) TRIVIA IsTrivia
trivia_always = many_always refl (first_always refl (always_first line_comment_always (always_first blanks_always (always_only block_comment_always))))

-- a symbol: trivia, its bytes, trivia
pub symbol_always : {r x : ℕ} {b : List ℕ} → row_of r ≡ Seq (TRIVIA ∷ x ∷ TRIVIA ∷ []) → row_of x ≡ Bytes b → Always (Unit {0}) r (word b)
symbol_always row bytes = seq_always row (always_part trivia_always (always_part (bytes_always bytes) (always_last trivia_always)))

-- a keyword: the same, with no name character next
pub keyword_always : {r x : ℕ} {b : List ℕ} → row_of r ≡ Seq (TRIVIA ∷ x ∷ NOT_NEXT_NAME ∷ TRIVIA ∷ []) → row_of x ≡ Bytes b → Always (Unit {0}) r (word b)
keyword_always row bytes =
    seq_always row (always_part trivia_always (always_part (bytes_always bytes) (always_skip (not_next_always refl) (always_last trivia_always))))

-- a symbol and a keyword, where they give a mark
pub symbol : {r x : ℕ} {b : List ℕ} → row_of r ≡ Seq (TRIVIA ∷ x ∷ TRIVIA ∷ []) → shape_of r ≡ Marked → row_of x ≡ Bytes b → Spelt (Unit {0}) r Mark (word b)
symbol row shape bytes = always_spelt Mark (rw shape refl) (symbol_always row bytes)

pub keyword : {r x : ℕ} {b : List ℕ} → row_of r ≡ Seq (TRIVIA ∷ x ∷ NOT_NEXT_NAME ∷ TRIVIA ∷ []) → shape_of r ≡ Marked → row_of x ≡ Bytes b → Spelt (Unit {0}) r Mark (word b)
keyword row shape bytes = always_spelt Mark (rw shape refl) (keyword_always row bytes)
