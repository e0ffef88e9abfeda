-- The lines of a docstring.
use Rattle.std.specs.Prelude.{◌≡◌, ◌≢◌, ℕ, ◌+◌, ◌-◌, ◌<◌, ◌≤◌, List, [], ◌∷◌, ◌++◌, drop, take, map, length, Some, None, Result, Ok, Err, OnOk, is_ok, true, slice_range}
use Rattle.std.specs.Str.{IsUtf8}
use Rattle.std.proofs.Common.{refl, sym, ap, ◌∙◌, subst, arith, append-nil, append_assoc, drop-drop, take-take, length-take-le}
use Rattle.std.proofs.lemmas.List.{length-drop}
use Rattle.memchr.specs.Find.{IsFirstByte, is_byte}
use Rattle.weedle_grammar.specs.Rows.{Many}
use Rattle.weedle_grammar.specs.Trees.{Tree, Lines, Items, trees, Fails, Gives}
use Rattle.weedle_grammar.specs.Meaning.{Yields, ReadsRow, by_seq, many_end, many_more, more_lines, but_last}
use Rattle.weedle_grammar.specs.written.Table.{webidl, Reads}
use Rattle.weedle_grammar.specs.written.Table.Trivia.{RUN_BLANK}
use Rattle.weedle_grammar.specs.written.Table.Leaves.{BYTES_THREE_SLASHES, PAST_LF, DOC_LINE, MANY_DOC_LINE, DOCSTRING}
use Rattle.weedle_grammar.proofs.Suffix.{then_on, fails, nothing, no_node}
use Rattle.weedle_grammar.proofs.Checked.{rank, ranked}
use Rattle.weedle_grammar.proofs.Takes.{takes}
use Rattle.weedle_grammar.proofs.Exists.{advances}
use Rattle.weedle_grammar.proofs.RowFacts.{of_row, row_forth, rest_add}
use Rattle.weedle_grammar.proofs.LeafFacts.{reads_past, cut}
use Rattle.weedle_grammar.proofs.FirstPlace.{found_byte}
use Rattle.weedle_grammar.proofs.FindFacts.{byte_lacks}
use Rattle.weedle_grammar.proofs.SilentRules.{lost}
use Rattle.weedle_grammar.proofs.TriviaFacts.{slice_front, given}
use Rattle.weedle_grammar.specs.Trivia.{Took}

-- One line.
line_bytes : (after : List ℕ) (i : ℕ) → i + 1 ≤ length after → but_last (take (i + 1) after) ≡ take i after
line_bytes after i fits =
    let e : length (take (i + 1) after) - 1 ≡ i = ap (λ (n : ℕ). n - 1) (length-take-le (i + 1) after fits) ∙ omega arith in
    ap (λ (n : ℕ). take n (take (i + 1) after)) e ∙ take-take i (i + 1) after (omega arith)

module _ {s line : List ℕ} (a : Took RUN_BLANK s [] line) where
  -- no line without `///`
  pub no_slashes : Reads line BYTES_THREE_SLASHES 0 Fails → Reads s DOC_LINE 0 Fails
  no_slashes d = no_node refl (lost a (fails d))

  module _ {after : List ℕ} (b : Took BYTES_THREE_SLASHES line [] after) where
    -- no line without an LF
    pub open_line : IsFirstByte (is_byte 10) after None → Reads s DOC_LINE 0 Fails
    open_line p = no_node refl (lost a (lost b (fails (byte_lacks PAST_LF refl refl p))))

    -- a whole line, its text kept
    pub whole_line : (i : ℕ) → IsFirstByte (is_byte 10) after (Some i) → {text rest : List ℕ} → text ≡ slice_range after 0 i
        → rest ≡ drop (i + 1) after → Took DOC_LINE s (Lines text ∷ []) rest
    whole_line i p {text} {rest} t r =
        let feed = given (reads_past {s = after} {r = PAST_LF} refl refl) (found_byte 10 after i p) in
        let here : after ≡ drop (a.place + b.place) s = rest_add s line after a.place b.place a.rest_is b.rest_is in
        let size : i + 1 ≡ (a.place + (b.place + (i + 1))) - (a.place + b.place) = omega arith in
        let text_is : text ≡ but_last (take ((a.place + (b.place + (i + 1))) - (a.place + b.place)) (drop (a.place + b.place) s)) =
        t ∙ slice_front after i ∙ sym (line_bytes after i (omega (arith, p.0.high)))
        ∙ ap (λ (x : List ℕ). but_last (take (i + 1) x)) here ∙ ap (λ (n : ℕ). but_last (take n (drop (a.place + b.place) s))) size in
        record {
          place = a.place + (b.place + (i + 1));
          reads = of_row refl (by_seq (then_on a.reads a.rest_is (then_on b.reads b.rest_is (then_on feed r nothing))) refl)
              (ap (λ (x : List ℕ). Gives (Lines x ∷ []) (a.place + (b.place + (i + 1)))) text_is);
          rest_is = rest_add s after rest (a.place + b.place) (i + 1) here r ∙ ap (λ (n : ℕ). drop n s) (omega arith);
        }

-- Lines one after another.
line_takes : {s : List ℕ} {k : ℕ} {ts : List Tree} → Reads s DOC_LINE 0 (Gives ts k) → 0 < k
line_takes {s} d = advances webidl s rank takes ranked d refl

-- a line takes a byte or more
pub line_shorter : {rest next : List ℕ} {ts : List Tree} → IsUtf8 rest → Took DOC_LINE rest ts next → length next < length rest
line_shorter {rest} {next} u t =
    let p = line_takes t.reads in
    let b = (cut u t.reads).0 in
    omega (arith, ap length t.rest_is, length-drop t.place rest, p, b)

more_trees : (more : List (List ℕ)) (text : List ℕ) (ts : List Tree)
    → map Lines more ++ (Lines text ∷ ts) ≡ map Lines (more ++ (text ∷ [])) ++ ts
more_trees [] text ts = refl
more_trees (line ∷ more) text ts = ap (λ (us : List Tree). Lines line ∷ us) (more_trees more text ts)

more_text : (more : List (List ℕ)) (text : List ℕ)
    → more_lines (trees (map Lines (more ++ (text ∷ [])))) ≡ more_lines (trees (map Lines more)) ++ (10 ∷ text)
more_text [] text = ap (λ (t : List ℕ). 10 ∷ t) (append-nil text)
more_text (line ∷ more) text =
    ap (λ (t : List ℕ). 10 ∷ line ++ t) (more_text more text)
    ∙ sym (append_assoc (10 ∷ line) (more_lines (trees (map Lines more))) (10 ∷ text))

-- the text holds the lines at the front of s, and rest follows them
pub record Lined (s text rest : List ℕ) : Type 0 where
  pub first : List ℕ
  pub behind : List ℕ
  pub head : Took DOC_LINE s (Lines first ∷ []) behind
  pub more : List (List ℕ)
  pub place : ℕ
  pub rest_is : rest ≡ drop place behind
  pub on : (ts : List Tree) (k : ℕ) → ReadsRow webidl rest (Many DOC_LINE) 0 (Yields ts [] k)
      → ReadsRow webidl behind (Many DOC_LINE) 0 (Yields (map Lines more ++ ts) [] (place + k))
  pub text_is : text ≡ first ++ more_lines (trees (map Lines more))

-- the first line
pub lined_first : {s first text rest : List ℕ} → Took DOC_LINE s (Lines first ∷ []) rest → text ≡ first → Lined s text rest
lined_first {s} {first} {text} {rest} h e = record {
  first = first;
  behind = rest;
  head = h;
  more = [];
  place = 0;
  rest_is = refl;
  on = λ ts k d. let z : 0 + k ≡ k = omega arith in rw z d;
  text_is = e ∙ sym (append-nil first);
}

-- one more line, behind an LF
pub lined_more : {s text rest line new next : List ℕ} → Lined s text rest → Took DOC_LINE rest (Lines line ∷ []) next
    → new ≡ (text ++ (10 ∷ [])) ++ line → Lined s new next
lined_more {s} {text} {rest} {line} {new} {next} h t e = record {
  first = h.first;
  behind = h.behind;
  head = h.head;
  more = h.more ++ (line ∷ []);
  place = h.place + t.place;
  rest_is = t.rest_is ∙ ap (λ (x : List ℕ). drop t.place x) h.rest_is ∙ drop-drop t.place h.place h.behind;
  on = λ ts k d.
      let there : ReadsRow webidl (drop t.place rest) (Many DOC_LINE) 0 (Yields ts [] k) =
      subst (λ (x : List ℕ). ReadsRow webidl x (Many DOC_LINE) 0 (Yields ts [] k)) t.rest_is d in
      let far : t.place ≢ 0 = λ z. (let p = line_takes t.reads in omega (arith, p, z)) in
      let all = h.on (Lines line ∷ ts) (t.place + k) (many_more t.reads far (row_forth rest t.place there) refl) in
      let size : h.place + (t.place + k) ≡ (h.place + t.place) + k = omega arith in
      subst (λ (us : List Tree). ReadsRow webidl h.behind (Many DOC_LINE) 0 (Yields us [] ((h.place + t.place) + k))) (more_trees h.more line ts)
      (subst (λ (n : ℕ). ReadsRow webidl h.behind (Many DOC_LINE) 0 (Yields (map Lines h.more ++ (Lines line ∷ ts)) [] n)) size all);
  text_is =
      let old = more_lines (trees (map Lines h.more)) in
      e ∙ ap (λ (x : List ℕ). (x ++ (10 ∷ [])) ++ line) h.text_is ∙ append_assoc (h.first ++ old) (10 ∷ []) line ∙ append_assoc h.first old (10 ∷ line)
      ∙ ap (λ (x : List ℕ). h.first ++ x) (sym (more_text h.more line));
}

-- where no more line follows, the lines are a docstring
pub lined_all : {s text rest : List ℕ} → Lined s text rest → Reads rest DOC_LINE 0 Fails → Took DOCSTRING s (Lines text ∷ []) rest
lined_all {s} {text} {rest} h d =
    let lines : ReadsRow webidl h.behind (Many DOC_LINE) 0 (Yields (map Lines h.more) [] (h.place + 0))
    = subst (λ (us : List Tree). ReadsRow webidl h.behind (Many DOC_LINE) 0 (Yields us [] (h.place + 0)))
    (append-nil (map Lines h.more)) (h.on [] 0 (many_end d refl)) in
    let many : Reads h.behind MANY_DOC_LINE 0 (Gives (Items (trees (map Lines h.more)) ∷ []) (h.place + 0)) = of_row refl lines refl in
    record {
      place = h.head.place + (h.place + 0);
      reads = of_row refl (by_seq (then_on h.head.reads h.head.rest_is (then_on many refl nothing)) refl)
          (ap (λ (x : List ℕ). Gives (Lines x ∷ []) (h.head.place + (h.place + 0))) h.text_is);
      rest_is = rest_add s h.behind rest h.head.place h.place h.head.rest_is h.rest_is ∙ ap (λ (n : ℕ). drop n s) (omega arith);
    }

-- what an `Ok` promises
pub when_ok : {T E : Type 0} {P : Type 0} (r : Result T E) → is_ok r ≡ true → OnOk r P → P
when_ok (Ok x) h p = p
when_ok (Err e) h p = cc
