-- What docstrings take.
use Rattle.std.proofs.Common.{◌≡◌, inl, inr, ℕ, suc, List, [], ◌∷◌, ◌++◌, map, take, drop, codes, Bool, true, false, Some, refl, sym, ap, ◌∙◌, subst, arith, length-append, take_at}
use Rattle.std.proofs.lemmas.Bool.Decides.{nat_tests}
use Rattle.std.specs.Prelude.{option_map, ◌&&◌, ◌==◌, if◌then◌else◌}
use Rattle.weedle_grammar.proofs.Inversion.{of_past}
use Rattle.weedle_grammar.proofs.Leaves.{chosen, suc_some, taken_le}
use Rattle.weedle_grammar.specs.Meaning.{Piece, piece, Raw, Yields, ReadsRow, many_end, many_stuck, many_more, kept, between, but_last, more_lines, joined, last_end, ends_of, given_of}
use Rattle.weedle_grammar.specs.Rows.{Many, Past, begins, take_past, is_in}
use Rattle.weedle_grammar.specs.written.Table.{webidl, Reads}
use Rattle.weedle_grammar.specs.written.Table.Trivia.{RUN_BLANK}
use Rattle.weedle_grammar.specs.written.Table.Leaves.{PAST_LF, BYTES_THREE_SLASHES, DOC_LINE, MANY_DOC_LINE, DOCSTRING}
use Rattle.weedle_grammar.specs.Trees.{Tree, Lines, Items, trees, Gives}
use Rattle.weedle_grammar.specs.declared.class.Class.TheVariants.{Blank, NotLineFeed}
use Rattle.weedle_spell.specs.Forms.{◌then◌, exactly, any, each}
use Rattle.weedle_spell.specs.Tokens.{doc_line, cut, before_first, documented}
use Rattle.weedle_spell.proofs.Always.{Always, run_always, bytes_always}
use Rattle.weedle_spell.proofs.Given.{gave, leaf_end, pieces_of, pieced, end_on, unpieced, after}
use Rattle.weedle_spell.proofs.RowBytes.{took_leaf}
use Rattle.weedle_spell.proofs.Spelt.{Spelt}
use Rattle.weedle_spell.proofs.Took.{Took, exact, took_as, took_none, took_then, took_between}

-- a line: a text without LF, and an LF
abbrev LineOf : List ℕ → Type 0
LineOf s = (line : List ℕ) × (s ≡ line ++ 10 ∷ []) × any NotLineFeed line

other_byte : (b : ℕ) → (10 == b) && true ≡ false → is_in NotLineFeed b ≡ true
other_byte b h = grind (arith, nat_tests)

line_feed : (b : ℕ) → (10 == b) && true ≡ true → b ≡ 10
line_feed b h = grind (arith, nat_tests)

line_of : (text : List ℕ) (k : ℕ) → take_past (10 ∷ []) text ≡ Some k → LineOf (take k text)
line_of [] k h = cc
line_of (b ∷ text) k h = elim (chosen (begins (10 ∷ []) (b ∷ text)) (Some 1) (option_map suc (take_past (10 ∷ []) text)) k h) [
  | inl w ↦ (let e : 1 ≡ k = cc in let f = line_feed b w.0 in subst (λ (n : ℕ). LineOf (take n (b ∷ text))) e ([], ap (λ (x : ℕ). x ∷ []) f, tt))
  | inr w ↦ (let s = suc_some (take_past (10 ∷ []) text) k w.1 in
      let f = line_of text s.0 s.1 in
      rw s.2 (b ∷ f.0, ap (λ (x : List ℕ). b ∷ x) f.1, (other_byte b w.0, f.2)))
]

-- the bytes that a line and its LF take
abbrev Ended : List ℕ → List ℕ → Type 0
Ended line s = (s ≡ line ++ 10 ∷ []) × any NotLineFeed line

line_took : {text : List ℕ} {p e : ℕ} {ts : List Tree} → Reads text PAST_LF p (Gives ts e) → (line : List ℕ) × Took text p e (Ended line)
line_took {text} {p} d =
    let g = gave {r = PAST_LF} refl d in
    let k = leaf_end p (take_past (10 ∷ []) (drop p text)) (of_past g.2) in
    let l = line_of (drop p text) k.0 k.1 in
    (l.0, took_leaf k.0 k.2 (taken_le (Past (10 ∷ [])) (drop p text) k.0 k.1) (l.1, l.2))

but_last_of : (line : List ℕ) → but_last (line ++ 10 ∷ []) ≡ line
but_last_of line = take_at line (10 ∷ []) _ (omega (arith, length-append line (10 ∷ [])))

doc_line_of : (line : List ℕ) (s : List ℕ) → (any Blank then exactly (codes "///") then Ended line) s → doc_line line s
doc_line_of line s h = record {
  first = h.first;
  rest = h.rest;
  is = h.is;
  of_first = h.of_first;
  of_rest = record {
    first = h.of_rest.first;
    rest = h.of_rest.rest;
    is = h.of_rest.is;
    of_first = h.of_rest.of_first;
    of_rest = record { first = line; rest = 10 ∷ []; is = h.of_rest.of_rest.0; of_first = (refl, h.of_rest.of_rest.1); of_rest = refl };
  };
}

-- a line of a docstring
abbrev DocLine : List ℕ → ℕ → ℕ → List Tree → Type 0
DocLine text p e ts = (line : List ℕ) × (ts ≡ Lines line ∷ []) × any NotLineFeed line × Took text p e (doc_line line)

doc_line_took : {text : List ℕ} {p e : ℕ} {ts : List Tree} → Reads text DOC_LINE p (Gives ts e) → DocLine text p e ts
doc_line_took {text} {p} {e} {ts} d =
    let s = pieces_of {r = DOC_LINE} refl d in
    let a = pieced s.1 in
    let b = pieced a.4 in
    let c = pieced b.4 in
    let n = unpieced c.4 in
    let blanks : Always ⊥ RUN_BLANK (any Blank) = run_always refl in
    let slashes : Always ⊥ BYTES_THREE_SLASHES (exactly (codes "///")) = bytes_always refl in
    let l = line_took c.3 in
    let took : Took text p c.1 (doc_line l.0) = took_as (doc_line_of l.0) (took_then (exact (blanks.of text p a.1 a.0 a.3)) (took_then (exact (slashes.of text a.1 b.1 b.0 b.3)) l.1)) in
    let z : c.1 ≡ e = sym (end_on _ _ _ _ _ a.5 ∙ end_on _ _ _ _ _ b.5 ∙ end_on _ _ _ _ _ c.5 ∙ ap (λ (ps : List Piece). last_end c.1 ps) n) ∙ s.2 in
    let third : kept text p (ends_of s.0) 2 ≡ between text b.1 c.1 =
    ap (λ (ps : List Piece). kept text p (ends_of ps) 2) a.5 ∙ ap (λ (ps : List Piece). kept text a.1 (ends_of ps) 1) b.5 ∙ ap (λ (ps : List Piece). kept text b.1 (ends_of ps) 0) c.5 in
    let line : but_last (kept text p (ends_of s.0) 2) ≡ l.0 = ap but_last (third ∙ took_between l.1 ∙ l.1.has.0) ∙ but_last_of l.0 in
    (l.0, s.3 ∙ ap (λ (x : List ℕ). Lines x ∷ []) line, l.1.has.1, subst (λ (k : ℕ). Took text p k (doc_line l.0)) z took)

-- lines of a docstring, one after another
abbrev AllLines : List (List ℕ) → Type 0
AllLines [] = Unit {0}
AllLines (line ∷ lines) = any NotLineFeed line × AllLines lines

abbrev DocLines : List ℕ → ℕ → ℕ → List Tree → Type 0
DocLines text p e ts = (lines : List (List ℕ)) × (ts ≡ map Lines lines) × AllLines lines × Took text p e (each doc_line lines)

doc_lines : {text : List ℕ} {p : ℕ} {w : Raw} → ReadsRow webidl text (Many DOC_LINE) p w → {us : List Tree} {zs : List ℕ} {e : ℕ} → Yields us zs e ≡ w → DocLines text p e us
doc_lines {text} {p} (many_end d f) {us} {zs} {e} h =
    let z : Yields us zs e ≡ Yields [] [] p = h ∙ f in
    let y : p ≡ e = cc in
    ([], cc, tt, subst (λ (k : ℕ). Took text p k (each doc_line [])) y (took_none refl))
doc_lines (many_stuck d s f) h = cc
doc_lines (many_more {ts = ts} {w = w} d n m f) h =
    let a = after ts w (h ∙ f) in
    let l = doc_line_took d in
    let more = doc_lines m a.1 in
    (l.0 ∷ more.0, a.2 ∙ ap (λ (x : List Tree). x ++ a.0) l.1 ∙ ap (λ (x : List Tree). Lines l.0 ∷ x) more.1, (l.2, more.2), took_then l.3 more.3)

-- lines behind their LFs
abbrev behind_feeds : List (List ℕ) → List ℕ
behind_feeds [] = []
behind_feeds (line ∷ lines) = 10 ∷ line ++ behind_feeds lines

more_lines_are : (lines : List (List ℕ)) → more_lines (trees (map Lines lines)) ≡ behind_feeds lines
more_lines_are [] = refl
more_lines_are (line ∷ lines) = ap (λ (x : List ℕ). 10 ∷ line ++ x) (more_lines_are lines)

not_feed : (b : ℕ) → is_in NotLineFeed b ≡ true → b == 10 ≡ false
not_feed b h = grind (arith, nat_tests)

cut_on : (b : ℕ) (o : Bool) (lines : List (List ℕ)) → o ≡ false → (if o then [] ∷ lines else before_first b lines) ≡ before_first b lines
cut_on b true lines h = cc
cut_on b false lines h = refl

cut_lines : (line : List ℕ) (lines : List (List ℕ)) → any NotLineFeed line → AllLines lines → cut (line ++ behind_feeds lines) ≡ line ∷ lines
cut_lines [] [] h all = refl
cut_lines [] (line ∷ lines) h all = ap (λ (x : List (List ℕ)). [] ∷ x) (cut_lines line lines all.0 all.1)
cut_lines (b ∷ line) lines h all =
    cut_on b (b == 10) (cut (line ++ behind_feeds lines)) (not_feed b h.0) ∙ ap (before_first b) (cut_lines line lines h.1 all)

same_lines : {a b : List ℕ} → Lines a ∷ [] ≡ Lines b ∷ [] → a ≡ b
same_lines e = cc

two_given : (ts us : List Tree) (q z : ℕ) (ps os ns : List Piece) → ps ≡ piece ts q ∷ os → os ≡ piece us z ∷ ns → ns ≡ [] → given_of ps ≡ ts ++ (us ++ [])
two_given ts us q z ps os ns a b c =
    ap given_of a ∙ ap (λ (x : List Piece). ts ++ given_of x) b ∙ ap (λ (x : List Piece). ts ++ (us ++ given_of x)) c

-- a docstring
pub doc_spelt : {L : Type 0} (text : List ℕ) → Spelt L DOCSTRING (Lines text) (documented text)
doc_spelt text = record {
  single = refl;
  of = λ source p e d.
      let s = pieces_of {r = DOCSTRING} refl d in
      let a = pieced s.1 in
      let b = pieced a.4 in
      let n = unpieced b.4 in
      let l = doc_line_took a.3 in
      let g = gave {r = MANY_DOC_LINE} refl b.3 in
      let more = doc_lines g.2 refl in
      let z : b.1 ≡ e = sym (end_on _ _ _ _ _ a.5 ∙ end_on _ _ _ _ _ b.5 ∙ ap (λ (ps : List Piece). last_end b.1 ps) n) ∙ s.2 in
      let given : given_of s.0 ≡ Lines l.0 ∷ Items (trees (map Lines more.0)) ∷ [] =
      two_given _ _ _ _ _ _ _ a.5 b.5 n ∙ ap (λ (x : List Tree). x ++ (b.0 ++ [])) l.1 ∙ ap (λ (x : List Tree). Lines l.0 ∷ x ++ []) g.3
      ∙ ap (λ (x : List Tree). Lines l.0 ∷ Items (trees x) ∷ []) more.1 in
      let is : text ≡ l.0 ++ behind_feeds more.0 = same_lines s.3 ∙ ap joined given ∙ ap (λ (x : List ℕ). l.0 ++ x) (more_lines_are more.0) in
      let lines : cut text ≡ l.0 ∷ more.0 = ap cut is ∙ cut_lines l.0 more.0 l.2 more.2 in
      inl (subst (λ (k : ℕ). Took source p k (documented text)) z (rw lines (took_then l.3 more.3)));
}
