-- The lines of a docstring, one after another.
use Rattle.std.proofs.Common.{◌≡◌, ℕ, zero, suc, ◌+◌, ◌-◌, ◌≤◌, ◌<◌, List, [], ◌∷◌, ◌++◌, length, drop, take, get_or, Option, Some, None, Bool, true, false, if◌then◌else◌, option_map, refl, sym, subst, ap, ◌∙◌, arith, length-drop, length-take-le, take-take, append_assoc, append-nil}
use Rattle.std.specs.Prelude.{IsCharBoundary, ◌==◌}
use Rattle.std.proofs.lemmas.Bool.{eqb-true}
use Rattle.std.proofs.lemmas.Str.{IsCharBoundary-before_ascii}
use Rattle.weedle_grammar.specs.Rows.{Past, begins, take_past}
use Rattle.weedle_grammar.specs.Trees.{Tree, trees, Mark, Text, Node, Alt, Absent, Present, Items, Lines, Gives}
use Rattle.weedle_grammar.specs.Meaning.{Silent, leaf, shaped, between, but_last, more_lines, by_row, by_seq, seq_end, seq_more}
use Rattle.weedle_grammar.specs.written.Table.{Reads}
use Rattle.weedle_grammar.specs.written.Table.Trivia.{RUN_BLANK}
use Rattle.weedle_grammar.specs.written.Table.Leaves.{BYTES_THREE_SLASHES, PAST_LF, DOC_LINE, MANY_DOC_LINE, DOCSTRING}
use Rattle.weedle_rules.specs.Cells.{HasEnd}
use Rattle.weedle_grammar.proofs.Inversion.{at_row, of_past}
use Rattle.weedle_grammar.proofs.Leaves.{both}
use Rattle.weedle_grammar.proofs.Unique.{one_outcome}
use Rattle.weedle_build_base.specs.Built.{plus, Due, Found, Rest, Builds}
use Rattle.weedle_build_base.proofs.Repeats.{Repeating, repeating_start, repeating_next, repeating_end, item_takes}
use Rattle.weedle_build_base.proofs.Sequences.{rest_of_row, front, next_found}

-- What ends with an LF.
-- of the bytes up to an LF, and it: the LF is the last
record EndsLine (s : List ℕ) (k : ℕ) : Type 0 where
  some : 0 < k
  inside : k ≤ length s
  last : get_or s (k - 1) 0 ≡ 10

line_more : (t : ℕ) (rest : List ℕ) (k : ℕ) → EndsLine rest k → EndsLine (t ∷ rest) (suc k)
line_more t rest zero h = absurd (let a = h.some in omega arith)
line_more t rest (suc k) h =
    let a : suc (suc k) - 1 ≡ suc k = omega arith in
    let b : suc k - 1 ≡ k = omega arith in
    record { some = omega arith; inside = omega (arith, h.inside); last = ap (λ n. get_or (t ∷ rest) n 0) a ∙ ap (λ n. get_or rest n 0) (sym b) ∙ h.last }

line_here : (b : Bool) (t : ℕ) (rest : List ℕ) (k : ℕ) (m : Option ℕ) → (b ≡ true → t ≡ 10) → ((j : ℕ) → m ≡ Some j → EndsLine rest j)
    → (if b then Some 1 else option_map suc m) ≡ Some k → EndsLine (t ∷ rest) k
line_here true t rest k m here more e = let q : 1 ≡ k = cc in subst (EndsLine (t ∷ rest)) q (record { some = omega arith; inside = omega arith; last = here refl })
line_here false t rest k None here more e = cc
line_here false t rest k (Some j) here more e = let q : suc j ≡ k = cc in subst (EndsLine (t ∷ rest)) q (line_more t rest j (more j refl))

line_end : (s : List ℕ) (k : ℕ) → take_past (10 ∷ []) s ≡ Some k → EndsLine s k
line_end [] k e = cc
line_end (t ∷ rest) k e =
    line_here (begins (10 ∷ []) (t ∷ rest)) t rest k (take_past (10 ∷ []) rest) (λ h. sym (eqb-true 10 t (both (10 == t) (begins [] rest) h).0)) (λ j f. line_end rest j f) e

past_from : (text : List ℕ) (s e : ℕ) (us : List Tree) (m : Option ℕ) → Gives us e ≡ shaped text (Past (10 ∷ [])) Silent s (leaf s m) → (k : ℕ) × (m ≡ Some k) × (e ≡ s + k)
past_from text s e us None h = cc
past_from text s e us (Some k) h = (k, refl, cc)

past_ends : {text : List ℕ} {s e : ℕ} {us : List Tree} → Reads text PAST_LF s (Gives us e) → (k : ℕ) × EndsLine (drop s text) k × (e ≡ s + k)
past_ends {text} {s} {e} {us} d =
    let h = at_row {row = Past (10 ∷ [])} refl d in
    let g = past_from text s e us (take_past (10 ∷ []) (drop s text)) (h.2 ∙ ap (shaped text (Past (10 ∷ [])) Silent s) (of_past h.1)) in
    (g.0, line_end (drop s text) g.0 g.1, g.2)

get_drop : (xs : List ℕ) (s i : ℕ) → get_or (drop s xs) i 0 ≡ get_or xs (s + i) 0
get_drop xs zero i = let e : i ≡ 0 + i = omega arith in ap (λ n. get_or xs n 0) e
get_drop [] (suc s) i = refl
get_drop (x ∷ xs) (suc s) i = let e : suc (s + i) ≡ suc s + i = omega arith in get_drop xs s i ∙ ap (λ n. get_or (x ∷ xs) n 0) e

module _ {text : List ℕ} {p : ℕ} (d : Due text DOC_LINE p) where
  rest_here : Rest text (RUN_BLANK ∷ BYTES_THREE_SLASHES ∷ PAST_LF ∷ []) p
  rest_here = rest_of_row d refl

  -- the whitespace in front of a line
  pub blanks_due : Due text RUN_BLANK p
  blanks_due = front rest_here

  module _ {q : ℕ} (blanks : Found text RUN_BLANK p q) where
    -- the slashes behind them
    pub slashes_due : Due text BYTES_THREE_SLASHES q
    slashes_due = front (next_found blanks rest_here)

    module _ {s : ℕ} (slashes : Found text BYTES_THREE_SLASHES q s) where
      past_due : Due text PAST_LF s
      past_due = front (next_found slashes (next_found blanks rest_here))

      -- where the text of the line begins
      pub line_start : IsCharBoundary text s
      line_start = past_due.boundary

      whole : Reads text DOC_LINE p (Gives (Lines (but_last (between text s past_due.end)) ∷ []) past_due.end)
      whole = by_row (by_seq (seq_more blanks.reads (seq_more slashes.reads (seq_more past_due.reads (seq_end refl) refl) refl) refl) refl) refl

      module _ {e : ℕ} (f : Found text DOC_LINE p e) where
        same_end : past_due.end ≡ e
        same_end = let h = one_outcome whole f.reads refl in cc

        ends : (k : ℕ) × EndsLine (drop s text) k × (e ≡ s + k)
        ends = past_ends (subst (λ z. Reads text PAST_LF s (Gives past_due.given z)) same_end past_due.reads)

        start_inside : s ≤ length text
        start_inside = past_due.boundary.0

        end_inside : e ≤ length text
        end_inside = let h = ends in let a = h.1.inside in let b = start_inside in omega (arith, length-drop s text, h.2)

        -- the LF follows the text of the line
        pub line_after : s + 1 ≤ e
        line_after = let h = ends in let a = h.1.some in omega (arith, h.2)

        -- and before it a character begins
        pub line_boundary : IsCharBoundary text (e - 1)
        line_boundary =
            let h = ends in
            let a = h.1.some in
            let b = end_inside in
            let i : e - 1 ≡ s + (h.0 - 1) = omega (arith, h.2) in
            let byte : get_or text (e - 1) 0 ≡ 10 = ap (λ n. get_or text n 0) i ∙ sym (get_drop text s (h.0 - 1)) ∙ h.1.last in
            IsCharBoundary-before_ascii text (e - 1) (omega (arith, h.2)) (omega (arith, byte))

        cut_short : but_last (between text s e) ≡ between text s (e - 1)
        cut_short =
            let a = end_inside in
            let b = line_after in
            let n : length (take (e - s) (drop s text)) - 1 ≡ (e - 1) - s = ap (λ (n : ℕ). n - 1) (length-take-le (e - s) (drop s text) (omega (arith, length-drop s text))) ∙ omega arith in
            ap (λ (n : ℕ). take n (take (e - s) (drop s text))) n ∙ take-take ((e - 1) - s) (e - s) (drop s text) (omega arith)

        -- the line's text
        pub line_reads : {line : List ℕ} → line ≡ between text s (e - 1) → Reads text DOC_LINE p (Gives (Lines line ∷ []) e)
        line_reads {line} h =
            let a : Reads text DOC_LINE p (Gives (Lines (but_last (between text s e)) ∷ []) e) = subst (λ z. Reads text DOC_LINE p (Gives (Lines (but_last (between text s z)) ∷ []) z)) same_end whole in
            subst (λ bytes. Reads text DOC_LINE p (Gives (Lines bytes ∷ []) e)) (cut_short ∙ sym h) a

-- Lines joined.
-- the lines from p to q have these bytes, an LF between two
pub record Lining (text : List ℕ) (p : ℕ) (bytes : List ℕ) (q : ℕ) : Type 0 where
  pub first : List ℕ
  pub place : ℕ
  pub head : Reads text DOC_LINE p (Gives (Lines first ∷ []) place)
  pub more : List Tree
  pub count : ℕ
  pub tail : Repeating text DOC_LINE place 0 more q count
  pub bytes_are : bytes ≡ first ++ more_lines (trees more)

push_line : (ts : List Tree) (line : List ℕ) → more_lines (trees (ts ++ (Lines line ∷ []))) ≡ more_lines (trees ts) ++ (10 ∷ line)
push_line [] line = ap (λ xs. 10 ∷ xs) (append-nil line)
push_line (Lines x ∷ ts) line = ap (λ xs. 10 ∷ x ++ xs) (push_line ts line) ∙ ap (λ xs. 10 ∷ xs) (sym (append_assoc x (more_lines (trees ts)) (10 ∷ line)))
push_line (Mark ∷ ts) line = push_line ts line
push_line (Text x ∷ ts) line = push_line ts line
push_line (Node x ∷ ts) line = push_line ts line
push_line (Alt i x ∷ ts) line = push_line ts line
push_line (Absent ∷ ts) line = push_line ts line
push_line (Present x ∷ ts) line = push_line ts line
push_line (Items x ∷ ts) line = push_line ts line

-- the first line of a docstring is due
pub first_due : {text : List ℕ} {p : ℕ} → Due text DOCSTRING p → Due text DOC_LINE p
first_due d = front (rest_of_row {rs = DOC_LINE ∷ MANY_DOC_LINE ∷ []} d refl)

-- behind the first line
pub lining_start : {text : List ℕ} {p q : ℕ} {line : List ℕ} → Due text DOCSTRING p → Reads text DOC_LINE p (Gives (Lines line ∷ []) q) → Lining text p line q
lining_start {text} {p} {q} {line} d g = record {
  first = line;
  place = q;
  head = g;
  more = [];
  count = 0;
  tail = repeating_start 0 (front (next_found (record { given = Lines line ∷ []; reads = g }) (rest_of_row {rs = DOC_LINE ∷ MANY_DOC_LINE ∷ []} d refl))) refl;
  bytes_are = sym (append-nil line);
}

module _ {text : List ℕ} {p q : ℕ} {bytes : List ℕ} (h : Lining text p bytes q) where
  module _ {line : List ℕ} {e : ℕ} (g : Reads text DOC_LINE q (Gives (Lines line ∷ []) e)) where
    built : Builds text DOC_LINE (Lines line) q h.count e (plus h.count 1)
    built = record { reads = g; counts = refl }

    -- behind one more line
    pub lining_next : {all : List ℕ} → all ≡ (bytes ++ (10 ∷ [])) ++ line → Lining text p all e
    lining_next {all} b = record {
      first = h.first;
      place = h.place;
      head = h.head;
      more = h.more ++ (Lines line ∷ []);
      count = plus h.count 1;
      tail = repeating_next h.tail built;
      bytes_are = b ∙ append_assoc bytes (10 ∷ []) line ∙ ap (λ xs. xs ++ (10 ∷ line)) h.bytes_are ∙ append_assoc h.first (more_lines (trees h.more)) (10 ∷ line) ∙ ap (λ xs. h.first ++ xs) (sym (push_line h.more line));
    }

    -- which takes a byte
    pub lining_takes : (q < e) × (e ≤ length text)
    lining_takes = let n = repeating_next h.tail built in (item_takes h.tail built, n.due.boundary.0)

  -- no more lines
  pub lining_end : {v w : ℕ} → HasEnd text DOC_LINE q None → w ≡ plus v 1 → Builds text DOCSTRING (Lines bytes) p v q w
  lining_end {v} {w} f c =
      let items : Builds text MANY_DOC_LINE (Items (trees h.more)) h.place 0 q (plus h.count 1) = repeating_end h.tail f refl refl (record { same = refl; counts = refl }) in
      let d : Reads text DOCSTRING p (Gives (Lines (h.first ++ more_lines (trees h.more)) ∷ []) q) = by_row (by_seq (seq_more h.head (seq_more items.reads (seq_end refl) refl) refl) refl) refl in
      record { reads = subst (λ xs. Reads text DOCSTRING p (Gives (Lines xs ∷ []) q)) (sym h.bytes_are) d; counts = c }
