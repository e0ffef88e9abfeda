-- The texts of what a rule gives are in what it takes, in their order: one induction for every
-- rule.
use Rattle.std.proofs.Common.{◌≡◌, ℕ, zero, suc, ◌-◌, ◌≤◌, List, [], ◌∷◌, ◌++◌, map, length, take, drop, Option, Some, None, refl, sym, ap, ◌∙◌, subst, arith, append_assoc, length-append, take_at, drop_at, append-nil}
use Rattle.std.proofs.lemmas.List.{drop-drop, take-append-drop, take-append-le, drop-append-le, length-drop}
use Rattle.weedle_grammar.proofs.Leaves.{taken_le}
use Rattle.weedle_grammar.specs.Meaning.{Shape, Silent, Marked, Kept, Line, Joined, Inner, Plain, Piece, piece, Raw, Breaks, Yields, ReadsBy, ReadsRow, ReadsSeq, ReadsFirst, by_row, by_bytes, by_one, by_not_next, by_run, by_past, by_seq, by_first, by_opt, many_end, many_stuck, many_more, list_none, list_more, list1_fails, list1_more, tail_end, tail_stuck, tail_back, tail_more, if_fails, if_absent, if_present, seq_end, seq_fails, seq_more, first_none, first_here, first_next, leaf, together, raw_of, opted, before, with_piece, given_of, ends_of, last_end, formed, shaped, plain, kept, between}
use Rattle.weedle_grammar.specs.Rows.{Row, Bytes, OneOf, NotNext, Run, Past, Seq, First, Opt, Many, ListOf, List1, Tail, If}
use Rattle.weedle_grammar.specs.written.Table.{webidl, row_of, shape_of, Reads}
use Rattle.weedle_grammar.specs.Trees.{Tree, trees, Node, Alt, Absent, Present, Items, Outcome, Fails, Gives}
use Rattle.weedle_spell.specs.Forms.{Form}
use Rattle.weedle_spell.specs.Pieces.{texts, all_texts, stand_from, IsInPieces}
use Rattle.weedle_spell.proofs.Took.{Took, took_as, took_none, took_between}
use Rattle.weedle_spell.proofs.RowBytes.{took_leaf}

-- these texts are in s in their order
abbrev pub InOrder : List (List ℕ) → List ℕ → Type 0
InOrder [] s = Unit {0}
InOrder (t ∷ ts) s = (a b : List ℕ) × (s ≡ a ++ (t ++ b)) × InOrder ts b

-- more bytes before
later : (ts : List (List ℕ)) (a s : List ℕ) → InOrder ts s → InOrder ts (a ++ s)
later [] a s h = tt
later (t ∷ ts) a s h = (a ++ h.0, h.1, ap (λ (x : List ℕ). a ++ x) h.2 ∙ sym (append_assoc a h.0 (t ++ h.1)), h.3)

-- more bytes and texts behind
along : (ts us : List (List ℕ)) (s r : List ℕ) → InOrder ts s → InOrder us r → InOrder (ts ++ us) (s ++ r)
along [] us s r h k = later us s r k
along (t ∷ ts) us s r h k =
    (h.0, h.1 ++ r, ap (λ (x : List ℕ). x ++ r) h.2 ∙ append_assoc h.0 (t ++ h.1) r ∙ ap (λ (x : List ℕ). h.0 ++ x) (append_assoc t h.1 r), along ts us h.1 r h.3 k)

-- fewer texts
front : (ts us : List (List ℕ)) (s : List ℕ) → InOrder (ts ++ us) s → InOrder ts s
front [] us s h = tt
front (t ∷ ts) us s h = (h.0, h.1, h.2, front ts us h.1 h.3)

-- from texts one after another to places
stand : (ts : List (List ℕ)) (a s whole : List ℕ) → whole ≡ a ++ s → InOrder ts s → stand_from (length a) ts whole
stand [] a s whole e h = tt
stand (t ∷ ts) a s whole e h =
    let b = a ++ h.0 in
    let c = b ++ t in
    let f : whole ≡ b ++ (t ++ h.1) = e ∙ ap (λ (x : List ℕ). a ++ x) h.2 ∙ sym (append_assoc a h.0 (t ++ h.1)) in
    let g : whole ≡ c ++ h.1 = f ∙ sym (append_assoc b t h.1) in
    let d : drop (length b) whole ≡ t ++ h.1 = ap (λ (x : List ℕ). drop (length b) x) f ∙ drop_at b (t ++ h.1) (length b) refl in
    let n : length c - length b ≡ length t = omega (arith, length-append b t) in
    let k : between whole (length b) (length c) ≡ t = ap (λ (x : List ℕ). take (length c - length b) x) d ∙ take_at t h.1 (length c - length b) (sym n) in
    (length b, length c, omega (arith, length-append a h.0), omega (arith, length-append b t), omega (arith, ap length g, length-append c h.1), sym k, stand ts c h.1 whole g h.3)

-- the texts of trees, as a list
abbrev pub texts_of : List Tree → List (List ℕ)
texts_of [] = []
texts_of (t ∷ ts) = texts t ++ texts_of ts

texts_trees : (ts : List Tree) → all_texts (trees ts) ≡ texts_of ts
texts_trees [] = refl
texts_trees (t ∷ ts) = ap (λ (x : List (List ℕ)). texts t ++ x) (texts_trees ts)

texts_append : (ts us : List Tree) → texts_of (ts ++ us) ≡ texts_of ts ++ texts_of us
texts_append [] us = refl
texts_append (t ∷ ts) us = ap (λ (x : List (List ℕ)). texts t ++ x) (texts_append ts us) ∙ sym (append_assoc (texts t) (texts_of ts) (texts_of us))

texts_alt : (i : ℕ) (ts : List Tree) → texts_of (map (Alt i) ts) ≡ texts_of ts
texts_alt i [] = refl
texts_alt i (t ∷ ts) = ap (λ (x : List (List ℕ)). texts t ++ x) (texts_alt i ts)

texts_present : (ts : List Tree) → texts_of (map Present ts) ≡ texts_of ts
texts_present [] = refl
texts_present (t ∷ ts) = ap (λ (x : List (List ℕ)). texts t ++ x) (texts_present ts)

-- the trees' texts are in s
abbrev pub Holds : List Tree → Form
Holds ts s = InOrder (texts_of ts) s

holds_as : (ts us : List Tree) → texts_of us ≡ texts_of ts → (s : List ℕ) → Holds ts s → Holds us s
holds_as ts us e s h = subst (λ (x : List (List ℕ)). InOrder x s) (sym e) h

-- places that don't fall, from p to q
abbrev Rising : ℕ → List ℕ → ℕ → Type 0
Rising p [] q = p ≤ q
Rising p (e ∷ ends) q = (p ≤ e) × Rising e ends q

rising_le : (p : ℕ) (ends : List ℕ) (q : ℕ) → Rising p ends q → p ≤ q
rising_le p [] q h = h
rising_le p (e ∷ ends) q h = let k = rising_le e ends q h.1 in omega (arith, h.0)

rising_on : (p q : ℕ) (ends : List ℕ) (e : ℕ) → p ≤ q → Rising q ends e → Rising p ends e
rising_on p q [] e h k = omega arith
rising_on p q (z ∷ ends) e h k = (omega (arith, k.0), k.1)

rising_far : (p : ℕ) (ends : List ℕ) (q e : ℕ) → Rising p ends q → q ≤ e → Rising p ends e
rising_far p [] q e h k = omega arith
rising_far p (z ∷ ends) q e h k = (h.0, rising_far z ends q e h.1 k)

module _ {text : List ℕ} {p q : ℕ} {A : Form} (t : Took text p q A) where
  -- what is between two places from p to q
  between_in : (d e : ℕ) → p ≤ d → d ≤ e → e ≤ q → InOrder (between text d e ∷ []) t.bytes
  between_in d e a b c =
      let s = t.bytes in
      let rest = drop (d - p) s in
      let whole : drop d text ≡ rest ++ drop q text =
      ap (λ (k : ℕ). drop k text) (omega arith) ∙ sym (drop-drop (d - p) p text) ∙ ap (drop (d - p)) t.is ∙ drop-append-le (d - p) s (drop q text) (omega (arith, t.size)) in
      let part : between text d e ≡ take (e - d) rest =
      ap (take (e - d)) whole ∙ take-append-le (e - d) rest (drop q text) (omega (arith, t.size, length-drop (d - p) s)) in (
        take (d - p) s,
        drop (e - d) rest,
        sym (take-append-drop (d - p) s) ∙ ap (λ (x : List ℕ). take (d - p) s ++ x) (sym (take-append-drop (e - d) rest) ∙ ap (λ (x : List ℕ). x ++ drop (e - d) rest) (sym part)),
        tt,
      )

  kept_in : (d : ℕ) (ends : List ℕ) (k : ℕ) → p ≤ d → Rising d ends q → InOrder (kept text d ends k ∷ []) t.bytes
  kept_in d [] k a r = ([], t.bytes, refl, tt)
  kept_in d (e ∷ ends) zero a r = between_in d e a r.0 (rising_le e ends q r.1)
  kept_in d (e ∷ ends) (suc k) a r = kept_in e ends k (omega (arith, a, r.0)) r.1

took_le : {text : List ℕ} {p q : ℕ} {A : Form} → Took text p q A → p ≤ q
took_le t = omega (arith, t.size)

module _ (text : List ℕ) where
  -- the texts of what a rule gives are in what it takes
  abbrev OutHolds : ℕ → Outcome → Type 0
  OutHolds p Fails = Unit {0}
  OutHolds p (Gives ts q) = Took text p q (Holds ts)

  -- those of what a row yields
  abbrev RawHolds : ℕ → Raw → Type 0
  RawHolds p Breaks = Unit {0}
  RawHolds p (Yields ts ends q) = Took text p q (Holds ts) × Rising p ends q

  -- those of pieces
  abbrev SeqHolds : ℕ → Option (List Piece) → Type 0
  SeqHolds p None = Unit {0}
  SeqHolds p (Some pieces) = Took text p (last_end p pieces) (Holds (given_of pieces)) × Rising p (ends_of pieces) (last_end p pieces)

  took_on : {p q e : ℕ} (ts us : List Tree) → Took text p q (Holds ts) → Took text q e (Holds us) → Took text p e (Holds (ts ++ us))
  took_on {e = e} ts us a b = record {
    bytes = a.bytes ++ b.bytes;
    is = a.is ∙ ap (λ (s : List ℕ). a.bytes ++ s) b.is ∙ sym (append_assoc a.bytes b.bytes (drop e text));
    size = omega (arith, a.size, b.size, length-append a.bytes b.bytes);
    has = subst (λ (x : List (List ℕ)). InOrder x (a.bytes ++ b.bytes)) (sym (texts_append ts us)) (along (texts_of ts) (texts_of us) a.bytes b.bytes a.has b.has);
  }

  none_holds : (p : ℕ) → Took text p p (Holds [])
  none_holds p = took_none tt

  leaf_holds : (p : ℕ) (o : Option ℕ) → ((k : ℕ) → o ≡ Some k → k ≤ length (drop p text)) → RawHolds p (leaf p o)
  leaf_holds p None h = tt
  leaf_holds p (Some k) h = (took_leaf k refl (h k refl) tt, omega arith)

  one_text : (t : Tree) (s : List ℕ) → InOrder (texts t) s → Holds (t ∷ []) s
  one_text t s h = subst (λ (x : List (List ℕ)). InOrder x s) (sym (append-nil (texts t))) h

  inner_holds : (ts : List Tree) (s : List ℕ) → Holds ts s → Holds (take 1 ts) s
  inner_holds [] s h = h
  inner_holds (t ∷ ts) s h = one_text t s (front (texts t) (texts_of ts) s h)

  node_texts : (ts : List Tree) (s : List ℕ) → Holds ts s → InOrder (all_texts (trees ts)) s
  node_texts ts s h = subst (λ (x : List (List ℕ)). InOrder x s) (sym (texts_trees ts)) h

  plain_holds : (row : Row) (ts : List Tree) (s : List ℕ) → Holds ts s → Holds (plain row ts) s
  plain_holds (Seq parts) ts s h = one_text (Node (trees ts)) s (node_texts ts s h)
  plain_holds (If parts k y) ts s h = one_text (Node (trees ts)) s (node_texts ts s h)
  plain_holds (Many x) ts s h = one_text (Items (trees ts)) s (node_texts ts s h)
  plain_holds (ListOf x t) ts s h = one_text (Items (trees ts)) s (node_texts ts s h)
  plain_holds (List1 x t) ts s h = one_text (Items (trees ts)) s (node_texts ts s h)
  plain_holds (Tail x t) ts s h = h
  plain_holds (First parts) ts s h = h
  plain_holds (Opt x) ts s h = h
  plain_holds (Bytes b) ts s h = h
  plain_holds (OneOf c) ts s h = h
  plain_holds (NotNext c) ts s h = h
  plain_holds (Run c) ts s h = h
  plain_holds (Past b) ts s h = h

  formed_holds : (row : Row) (shape : Shape) (p q : ℕ) (ts : List Tree) (ends : List ℕ) → Took text p q (Holds ts) → Rising p ends q
      → Took text p q (Holds (formed text row shape p ts ends))
  formed_holds row Silent p q ts ends t r = took_as (λ s h. tt) t
  formed_holds row Marked p q ts ends t r = took_as (λ s h. tt) t
  formed_holds row (Kept k) p q ts ends t r = record { bytes = t.bytes; is = t.is; size = t.size; has = kept_in t p ends k (omega arith) r }
  formed_holds row Line p q ts ends t r = took_as (λ s h. tt) t
  formed_holds row Joined p q ts ends t r = took_as (λ s h. tt) t
  formed_holds row Inner p q ts ends t r = took_as (inner_holds ts) t
  formed_holds row Plain p q ts ends t r = took_as (plain_holds row ts) t

  shaped_holds : (row : Row) (shape : Shape) (p : ℕ) (w : Raw) → RawHolds p w → OutHolds p (shaped text row shape p w)
  shaped_holds row shape p Breaks h = tt
  shaped_holds row shape p (Yields ts ends q) h = formed_holds row shape p q ts ends h.0 h.1

  together_holds : (p : ℕ) (o : Option (List Piece)) → SeqHolds p o → RawHolds p (together p o)
  together_holds p None h = tt
  together_holds p (Some pieces) h = h

  raw_holds : (p : ℕ) (o : Outcome) → OutHolds p o → RawHolds p (raw_of o)
  raw_holds p Fails h = tt
  raw_holds p (Gives ts q) h = (h, took_le h)

  opted_holds : (p : ℕ) (o : Outcome) → OutHolds p o → RawHolds p (opted p o)
  opted_holds p Fails h = (took_none tt, omega arith)
  opted_holds p (Gives ts q) h = (took_as (holds_as ts (map Present ts) (texts_present ts)) h, took_le h)

  before_holds : {p q : ℕ} (ts : List Tree) (w : Raw) → Took text p q (Holds ts) → RawHolds q w → RawHolds p (before ts w)
  before_holds ts Breaks t h = tt
  before_holds {p} {q} ts (Yields us ends e) t h = (took_on ts us t h.0, rising_on p q ends e (took_le t) h.1)

  seq_holds : {p q : ℕ} (ts : List Tree) (o : Option (List Piece)) → Took text p q (Holds ts) → SeqHolds q o → SeqHolds p (with_piece (piece ts q) o)
  seq_holds ts None t h = tt
  seq_holds ts (Some pieces) t h = (took_on ts (given_of pieces) t h.0, (took_le t, h.1))

  mutual
    -- the texts of what a rule gives are in what it takes
    pub out_holds : {r p : ℕ} {o : Outcome} → ReadsBy webidl text r p o → OutHolds p o
    out_holds {r} {p} (by_row {w = w} d e) = subst (OutHolds p) (sym e) (shaped_holds (row_of r) (shape_of r) p w (row_holds d))

    row_holds : {row : Row} {p : ℕ} {w : Raw} → ReadsRow webidl text row p w → RawHolds p w
    row_holds {p = p} (by_bytes {b = b} e) = subst (RawHolds p) (sym e) (leaf_holds p _ (taken_le (Bytes b) (drop p text)))
    row_holds {p = p} (by_one {c = c} e) = subst (RawHolds p) (sym e) (leaf_holds p _ (taken_le (OneOf c) (drop p text)))
    row_holds {p = p} (by_not_next {c = c} e) = subst (RawHolds p) (sym e) (leaf_holds p _ (taken_le (NotNext c) (drop p text)))
    row_holds {p = p} (by_run {c = c} e) = subst (RawHolds p) (sym e) (leaf_holds p _ (taken_le (Run c) (drop p text)))
    row_holds {p = p} (by_past {b = b} e) = subst (RawHolds p) (sym e) (leaf_holds p _ (taken_le (Past b) (drop p text)))
    row_holds {p = p} (by_seq {o = o} d e) = subst (RawHolds p) (sym e) (together_holds p o (parts_hold d))
    row_holds {p = p} (by_first {o = o} d e) = subst (RawHolds p) (sym e) (raw_holds p o (first_holds d))
    row_holds {p = p} (by_opt {o = o} d e) = subst (RawHolds p) (sym e) (opted_holds p o (out_holds d))
    row_holds {p = p} (many_end d e) = subst (RawHolds p) (sym e) (none_holds p, omega arith)
    row_holds {p = p} (many_stuck d s e) = subst (RawHolds p) (sym e) tt
    row_holds {p = p} (many_more {ts = ts} {w = w} d n m e) = subst (RawHolds p) (sym e) (before_holds ts w (out_holds d) (row_holds m))
    row_holds {p = p} (list_none d e) = subst (RawHolds p) (sym e) (none_holds p, omega arith)
    row_holds {p = p} (list_more {q = q} {ts = ts} {o = o} d m e) = subst (RawHolds p) (sym e) (before_holds ts (raw_of o) (out_holds d) (raw_holds q o (out_holds m)))
    row_holds {p = p} (list1_fails d e) = subst (RawHolds p) (sym e) tt
    row_holds {p = p} (list1_more {q = q} {ts = ts} {o = o} d m e) = subst (RawHolds p) (sym e) (before_holds ts (raw_of o) (out_holds d) (raw_holds q o (out_holds m)))
    row_holds {p = p} (tail_end d e) = subst (RawHolds p) (sym e) (none_holds p, omega arith)
    row_holds {p = p} (tail_stuck d s e) = subst (RawHolds p) (sym e) tt
    row_holds {p = p} (tail_back d n m e) = subst (RawHolds p) (sym e) (none_holds p, omega arith)
    row_holds {p = p} (tail_more {us = us} {w = w} d n m t e) =
        subst (RawHolds p) (sym e) (before_holds us w (took_on [] us (took_as (λ s h. tt) (out_holds d)) (out_holds m)) (row_holds t))
    row_holds {p = p} (if_fails d e) = subst (RawHolds p) (sym e) tt
    row_holds {p = p} (if_absent {pieces = pieces} d g e) =
        let h = parts_hold d in
        subst (RawHolds p) (sym e) (took_on (given_of pieces) (Absent ∷ []) h.0 (took_none tt), took_le h.0)
    row_holds {p = p} (if_present {o = o} {pieces = pieces} d g m e) =
        subst (RawHolds p) (sym e) (before_holds (given_of pieces) (raw_of o) (parts_hold d).0 (raw_holds (last_end p pieces) o (out_holds m)))

    parts_hold : {rs : List ℕ} {p : ℕ} {o : Option (List Piece)} → ReadsSeq webidl text rs p o → SeqHolds p o
    parts_hold {p = p} (seq_end e) = subst (SeqHolds p) (sym e) (none_holds p, omega arith)
    parts_hold {p = p} (seq_fails d e) = subst (SeqHolds p) (sym e) tt
    parts_hold {p = p} (seq_more {ts = ts} {o = o} d m e) = subst (SeqHolds p) (sym e) (seq_holds ts o (out_holds d) (parts_hold m))

    first_holds : {rs : List ℕ} {i p : ℕ} {o : Outcome} → ReadsFirst webidl text rs i p o → OutHolds p o
    first_holds {p = p} (first_none e) = subst (OutHolds p) (sym e) tt
    first_holds {p = p} (first_here {i = i} {ts = ts} d e) = subst (OutHolds p) (sym e) (took_as (holds_as ts (map (Alt i) ts) (texts_alt i ts)) (out_holds d))
    first_holds (first_next d m) = first_holds m

-- the texts of a tree that a rule gives are in what it takes
pub in_pieces : (text : List ℕ) (r p e : ℕ) (t : Tree) → Reads text r p (Gives (t ∷ []) e) → IsInPieces t (between text p e)
in_pieces text r p e t d =
    let h = out_holds text d in
    subst (IsInPieces t) (sym (took_between h)) (stand (texts t) [] h.bytes h.bytes refl (subst (λ (x : List (List ℕ)). InOrder x h.bytes) (append-nil (texts t)) h.has))
