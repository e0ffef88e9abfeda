-- What the counting view's steps keep.
use Rattle.std.proofs.Common.{◌≡◌, inl, inr, ℕ, ◌+◌, ◌-◌, ◌*◌, ◌<◌, ◌≤◌, List, [], ◌∷◌, ◌++◌, length, map, take, get_or, set, Bool, true, false, Option, None, refl, ap, sym, subst, ◌∙◌, arith, max}
use Rattle.std.specs.Prelude.{IfSome}
use Rattle.std.proofs.lemmas.List.{get_or-map, get_or-take, map-append, length-append, length-map, length-set, length-take-le, take-append-le, take_more_set}
use Rattle.std.proofs.Math.Seq.{get_or-append_seam}
use Rattle.std.proofs.Math.ListN.{get_or-append}
use Rattle.std.proofs.lemmas.Bool.{cases_lt}
use Rattle.weedle_grammar.specs.written.Bound.{table_count}
use Rattle.weedle_rules.specs.written.Bound.{most_reads}
use Rattle.weedle_grammar.specs.Trees.{Outcome, Fails, Gives}
use Rattle.weedle_grammar.specs.written.Table.{webidl, Reads}
use Rattle.weedle_rules.specs.Cells.{end_of, HasEnd, cell_number, cell_of, AllRight}
use Rattle.weedle_rules.specs.TableOfEnds.{IsCounted}
use Rattle.weedle_rules.specs.ReaderView.{cells_of, known_of, AreRows, IsReader}
use Rattle.weedle_rules.proofs.CellRows.{cells_length, cells_get, cells_set, set_even, push_even, cells_push}
use Rattle.weedle_grammar.proofs.Exists.{stays_inside}
use Rattle.weedle_rules.proofs.CountFacts.{one_more}

outcome_within : (text : List ℕ) (r p : ℕ) (o : Outcome) → Reads text r p o → p ≤ length text → (g : ℕ) → length text ≤ g → IfSome (end_of o) (λ q. q ≤ g)
outcome_within text r p Fails d l g h = tt
outcome_within text r p (Gives ts q) d l g h = let a : q ≤ length text = stays_inside webidl text d l in omega arith

-- an end is within the text
pub end_within : {text : List ℕ} {r p : ℕ} {e : Option ℕ} → HasEnd text r p e → p ≤ length text → (g : ℕ) → length text ≤ g → IfSome e (λ q. q ≤ g)
end_within {text} {r} {p} h l g k = subst (λ e. IfSome e (λ q. q ≤ g)) (sym h.is) (outcome_within text r p h.outcome h.reads l g k)

-- one cell more that is right
pub all_right_more : (text : List ℕ) (known : List (Option ℕ)) (r p : ℕ) (e : Option ℕ) → AllRight text known → r < table_count → p ≤ length text
    → length known ≡ cell_number (length text) r p → HasEnd text r p e → AllRight text (known ++ e ∷ [])
all_right_more text known r p e h low within next right r' p' low' within' l =
    elim (cases_lt (cell_number (length text) r' p') (length known)) [
      | inl k ↦ subst (HasEnd text r' p') (sym (get_or-append known (e ∷ []) None (cell_number (length text) r' p') k)) (h r' p' low' within' k)
      | inr k ↦ (
          let n : cell_number (length text) r' p' ≡ length known = omega (arith, length-append known (e ∷ [])) in
          let ep : p ≡ p' = omega arith in
          let er : r ≡ r' = omega arith in
          let a : HasEnd text r' p' e = subst (λ z. HasEnd text z p' e) er (subst (λ z. HasEnd text r z e) ep right) in
          subst (HasEnd text r' p') (sym (ap (λ i. get_or (known ++ e ∷ []) i None) n ∙ get_or-append_seam known e [] None)) a)
    ]

module _ {C : Type 0} (stands : C → Option ℕ) where
  -- the cells that are known where one more is written
  pub known_more : (rows : List (List C)) → AreRows rows → (i j w : ℕ) (e : List C) (c : C) → i < length rows → j < table_count → w ≡ i * table_count + j
      → known_of stands (w + 1) (set rows i (set (get_or rows i e) j c)) ≡ known_of stands w rows ++ stands c ∷ []
  known_more rows even i j w e c h l n =
      ap (λ k. map stands (take (w + 1) k)) (cells_set rows even i j w e c h l n)
      ∙ ap (map stands) (take_more_set (cells_of rows) w c (omega (arith, cells_length rows even)))
      ∙ map-append stands (take w (cells_of rows)) (c ∷ [])

  pub known_length : (rows : List (List C)) → AreRows rows → (w : ℕ) → w ≤ length rows * table_count → length (known_of stands w rows) ≡ w
  known_length rows even w h =
      length-map (take w (cells_of rows)) stands ∙ length-take-le w (cells_of rows) (omega (arith, cells_length rows even))

  -- what a cell that is known stands for
  pub known_stands : (rows : List (List C)) → AreRows rows → (i j k w : ℕ) (row : List C) (c : C) → w ≤ length rows * table_count → k < w → k ≡ i * table_count + j
      → j < table_count → row ≡ get_or rows i row → c ≡ get_or row j c → get_or (known_of stands w rows) k None ≡ stands c
  known_stands rows even i j k w row c l h n low is cis =
      let len = cells_length rows even in
      let ll = length-take-le w (cells_of rows) (omega arith) in
      let in_rows : i < length rows = omega arith in
      get_or-map stands (take w (cells_of rows)) k c None (omega arith)
      ∙ ap stands (get_or-take w (cells_of rows) k c h ∙ cells_get rows even i j k row c in_rows low n ∙ ap (λ z. get_or z j c) (sym is) ∙ sym cis)

  -- what a look at a cell answers
  pub cell_is : (text : List ℕ) (rows : List (List C)) → AreRows rows → (w r p : ℕ) (row : List C) (c : C) (e : Option ℕ)
      → w ≤ length rows * table_count → r < table_count → cell_number (length text) r p < length (known_of stands w rows)
      → row ≡ get_or rows (length text - p) row → c ≡ get_or row r c → e ≡ stands c → e ≡ cell_of text (known_of stands w rows) r p
  cell_is text rows even w r p row c e laid low l is cis es =
      es ∙ sym (known_stands rows even (length text - p) r (cell_number (length text) r p) w row c laid (omega (arith, known_length rows even w laid)) refl low is cis)

  -- it is right
  pub cell_right : (text : List ℕ) (rows : List (List C)) → AreRows rows → (w r p : ℕ) (row : List C) (c : C) (e : Option ℕ) → AllRight text (known_of stands w rows)
      → w ≤ length rows * table_count → r < table_count → p ≤ length text → cell_number (length text) r p < length (known_of stands w rows)
      → row ≡ get_or rows (length text - p) row → c ≡ get_or row r c → e ≡ stands c → HasEnd text r p e
  cell_right text rows even w r p row c e h laid low within l is cis es =
      subst (HasEnd text r p) (sym (cell_is text rows even w r p row c e laid low l is cis es)) (h r p low within l)

  -- one more row is added, and the same cells are known
  pub lays_known : (rows : List (List C)) (row : List C) (w : ℕ) → w ≤ length (cells_of rows) → known_of stands w (rows ++ row ∷ []) ≡ known_of stands w rows
  lays_known rows row w h = ap (λ z. map stands (take w z)) (cells_push rows row) ∙ ap (map stands) (take-append-le w (cells_of rows) row h)

  -- laying a row out, where all cells of those before are known
  pub reader_lays : (greatest : ℕ) (text : List ℕ) (rows : List (List C)) (capacity before w v reads most : ℕ) (is_open : Bool) (row : List C)
      → IsReader stands greatest text rows capacity before w reads most is_open → length rows < length text + 1 → length row ≡ table_count
      → length (known_of stands w rows) ≡ length rows * table_count → v ≡ w
      → IsReader stands greatest text (rows ++ row ∷ []) capacity w v reads most is_open
  reader_lays greatest text rows capacity before w v reads most is_open row h room l full e =
      let len = cells_length rows h.even in
      let more = length-append rows (row ∷ []) in
      let all : w ≡ length rows * table_count = sym (known_length rows h.even w h.laid) ∙ full in
      subst (λ z. IsReader stands greatest text (rows ++ row ∷ []) capacity w z reads most is_open) (sym e) record {
        fits = h.fits;
        even = push_even rows h.even row l;
        above = omega arith;
        laid = omega (arith, h.laid);
        room = h.room;
        few = omega arith;
        right = subst (AllRight text) (sym (lays_known rows row w (omega (arith, h.laid)))) h.right;
        counts = h.counts;
        counted = h.counted;
        open_cell = λ o. omega (arith, h.open_cell o);
      }

  -- opening a working-out
  pub reader_opens : (greatest : ℕ) (text : List ℕ) (rows : List (List C)) (capacity before w reads most : ℕ) (is_open : Bool)
      → IsReader stands greatest text rows capacity before w reads most is_open → length (known_of stands w rows) < length rows * table_count
      → IsReader stands greatest text rows capacity before w reads most true
  reader_opens greatest text rows capacity before w reads most is_open h room =
      record {
        fits = h.fits;
        even = h.even;
        above = h.above;
        laid = h.laid;
        room = h.room;
        few = h.few;
        right = h.right;
        counts = h.counts;
        counted = h.counted;
        open_cell = λ o. omega (arith, known_length rows h.even w h.laid);
      }

  pub reader_counts : (greatest : ℕ) (text : List ℕ) (rows : List (List C)) (capacity before w reads most : ℕ) (is_open : Bool)
      → IsReader stands greatest text rows capacity before w reads most is_open → IsCounted most_reads (known_of stands w rows) w reads most
  reader_counts greatest text rows capacity before w reads most is_open h =
      record { each = sym (known_length rows h.even w h.laid); counts = h.counts; counted = h.counted }

  -- the cell that is worked out is the next of the last row
  pub closes_at : (greatest : ℕ) (text : List ℕ) (rows : List (List C)) (capacity before w reads most rule place filled : ℕ)
      → IsReader stands greatest text rows capacity before w reads most true → rule < table_count → w ≡ before + filled
      → length (known_of stands w rows) ≡ cell_number (length text) rule place → (length text - place ≡ length rows - 1) × (filled ≡ rule)
  closes_at greatest text rows capacity before w reads most rule place filled h low wn n =
      let o = h.open_cell refl in
      let b = h.above in
      let k : w ≡ cell_number (length text) rule place = sym (known_length rows h.even w h.laid) ∙ n in
      let r : length text - place ≡ length rows - 1 = omega arith in
      (r, omega arith)

  -- the cells that are known where a working-out is closed
  pub closes_known : (greatest : ℕ) (text : List ℕ) (rows : List (List C)) (capacity before w v reads most i j : ℕ) (row : List C) (c : C) (e : Option ℕ)
      → IsReader stands greatest text rows capacity before w reads most true → i ≡ length rows - 1 → w ≡ before + j → row ≡ get_or rows i row → stands c ≡ e → v ≡ w + 1
      → known_of stands v (set rows i (set row j c)) ≡ known_of stands w rows ++ e ∷ []
  closes_known greatest text rows capacity before w v reads most i j row c e h last wn at is ve =
      let o = h.open_cell refl in
      let b = h.above in
      ap (λ x. known_of stands x (set rows i (set row j c))) ve
      ∙ ap (λ z. known_of stands (w + 1) (set rows i (set z j c))) at
      ∙ known_more rows h.even i j w row c (omega arith) (omega arith) (omega arith)
      ∙ ap (λ z. known_of stands w rows ++ z ∷ []) is

  -- closing a working-out
  pub reader_closes : (greatest : ℕ) (text : List ℕ) (rows : List (List C)) (capacity before w v reads most rule place count i j : ℕ) (row : List C) (c : C) (e : Option ℕ)
      → IsReader stands greatest text rows capacity before w reads most true → rule < table_count → i ≡ length rows - 1 → w ≡ before + j → row ≡ get_or rows i row → place ≤ length text
      → length (known_of stands w rows) ≡ cell_number (length text) rule place → stands c ≡ e → HasEnd text rule place e → 0 < count → count ≤ most_reads → v ≡ w + 1
      → IsReader stands greatest text (set rows i (set row j c)) capacity before v (reads + count) (max most count) false
  reader_closes greatest text rows capacity before w v reads most rule place count i j row c e h low last wn at within n is right looked few ve =
      let o = h.open_cell refl in
      let ls = length-set rows i (set row j c) in
      let a = all_right_more text (known_of stands w rows) rule place e h.right low within n right in
      record {
        fits = h.fits;
        even = set_even rows h.even i (set row j c) (length-set row j c ∙ ap length at ∙ h.even i row (omega arith));
        above = h.above ∙ ap (λ z. (z - 1) * table_count) (sym ls);
        laid = omega arith;
        room = h.room;
        few = omega (arith, h.few);
        right = subst (AllRight text) (sym (closes_known greatest text rows capacity before w v reads most i j row c e h last wn at is ve)) a;
        counts = h.counts ++ count ∷ [];
        counted = one_more most_reads h.counts w v reads most count h.counted looked few ve;
        open_cell = λ f. cc;
      }
