-- The bytes of the nodes without parts are the text.
use Rattle.std.proofs.Common.{◌≡◌, ◌⊎◌, inl, inr, ℕ, zero, suc, ◌+◌, ◌-◌, ◌<◌, ◌≤◌, List, [], ◌∷◌, ◌++◌, length, take, drop, Bool, true, false, refl, sym, subst, ◌∙◌, ap, arith, append-nil}
use Rattle.std.specs.Prelude.{nat_lt, if◌then◌else◌}
use Rattle.std.proofs.lemmas.Bool.{lt-ltb, le-ltb}
use Rattle.std.proofs.lemmas.List.{drop-drop, take_all}
use Rattle.weedle_grammar.specs.Rows.{Row, Bytes, OneOf, NotNext, Run, Past, Seq, First, Opt, Many, ListOf, List1, Tail, If}
use Rattle.weedle_grammar.specs.Meaning.{between}
use Rattle.weedle_grammar.specs.written.Table.{row_of}
use Rattle.weedle_syntax.specs.declared.node.Node.{Node}
use Rattle.weedle_syntax.specs.Parts.{IsNode, AreInTurn, IsFirst, AreItems, AreFollowing, AreParts}
use Rattle.weedle_syntax.specs.Syntax.{root_to, IsSyntaxTo, leaves_of}
use Rattle.weedle_syntax.proofs.TreeFacts.{AreNodes, AreAll, nodes_of}
use Rattle.weedle_starts.proofs.ReadFacts.{ends_after}

-- nodes from p to e, each from the end of the one before
abbrev pub Tile : ℕ → ℕ → List Node → Type 0
Tile p e [] = e ≡ p
Tile p e (n ∷ ns) = (n.start ≡ p) × (p ≤ n.end) × Tile n.end e ns

-- none deeper than the one before, and the first no deeper than d
abbrev pub Rise : ℕ → List Node → Type 0
Rise d [] = Unit {0}
Rise d (n ∷ ns) = (n.depth ≤ d) × Rise n.depth ns

pub tile_on : (p e : ℕ) (ns : List Node) → Tile p e ns → p ≤ e
tile_on p e [] h = omega arith
tile_on p e (n ∷ ns) h =
    let a = h.1 in
    let b : n.end ≤ e = tile_on n.end e ns h.2 in
    omega arith

pub tile_append : (p q e : ℕ) (ns ms : List Node) → Tile p q ns → Tile q e ms → Tile p e (ns ++ ms)
tile_append p q e [] ms a b = subst (λ z. Tile z e ms) a b
tile_append p q e (n ∷ ns) ms a b = (a.0, a.1, tile_append n.end q e ns ms a.2 b)

-- all of depth d
abbrev pub Level : ℕ → List Node → Type 0
Level d [] = Unit {0}
Level d (n ∷ ns) = (n.depth ≡ d) × Level d ns

-- nodes of one depth, before others that are no deeper
pub rise_append : (d : ℕ) (ns ms : List Node) → Level d ns → Rise d ms → Rise d (ns ++ ms)
rise_append d [] ms a b = b
rise_append d (n ∷ ns) ms a b =
    let e : n.depth ≡ d = a.0 in
    (omega arith, subst (λ z. Rise z (ns ++ ms)) (sym e) (rise_append d ns ms a.1 b))

pub rise_more : (d k : ℕ) (ns : List Node) → d ≤ k → Rise d ns → Rise k ns
rise_more d k [] h a = tt
rise_more d k (n ∷ ns) h a = let l = a.0 in (omega arith, a.1)

module _ (text : List ℕ) (d : ℕ) where
  step : (r p : ℕ) (n : Node) → IsNode text r d p n → (n.start ≡ p) × (p ≤ n.end)
  step r p n i = (i.start_is, ends_after i.reads)

  turn_tile : (rs : List ℕ) (p e : ℕ) (ns : List Node) → AreInTurn text rs d p e ns → Tile p e ns × Level d ns
  turn_tile [] p e ns h = subst (λ s. Tile p e s × Level d s) (sym h.0) (h.1, tt)
  turn_tile (r ∷ rs) p e [] h = absurd h
  turn_tile (r ∷ rs) p e (n ∷ ns) h = let k = turn_tile rs n.end e ns h.1 in let s = step r p n h.0 in ((s.0, s.1, k.0), (h.0.depth_is, k.1))

  first_tile : (rs : List ℕ) (p e : ℕ) (ns : List Node) → IsFirst text rs d p e ns → Tile p e ns × Level d ns
  first_tile [] p e ns h = absurd h
  first_tile (r ∷ rs) p e ns (inl h) = turn_tile (r ∷ []) p e ns h
  first_tile (r ∷ rs) p e ns (inr h) = first_tile rs p e ns h.1

  items_tile : (y p e : ℕ) (ns : List Node) → AreItems text y d p e ns → Tile p e ns × Level d ns
  items_tile y p e [] h = (h.0, tt)
  items_tile y p e (n ∷ ns) h = let k = items_tile y n.end e ns h.1 in let s = step y p n h.0 in ((s.0, s.1, k.0), (h.0.depth_is, k.1))

  following_tile : (y s p e : ℕ) (ns : List Node) → AreFollowing text y s d p e ns → Tile p e ns × Level d ns
  following_tile y s p e [] h = (h.0, tt)
  following_tile y s p e (n ∷ []) h = absurd h
  following_tile y s p e (n ∷ m ∷ ns) (i, j, h) =
      let k = following_tile y s m.end e ns h in
      let a = step s p n i in
      let b = step y n.end m j in
      ((a.0, a.1, (b.0, b.1, k.0)), (i.depth_is, (j.depth_is, k.1)))

  -- no nodes, or nodes from p to e
  abbrev pub Covers : ℕ → ℕ → List Node → Type 0
  Covers p e ns = (ns ≡ []) ⊎ (Tile p e ns × Level d ns)

  pub row_covers : (row : Row) (p e : ℕ) (ns : List Node) → AreParts text row d p e ns → Covers p e ns
  row_covers (Seq parts) p e ns h = inr (turn_tile parts p e ns h)
  row_covers (First parts) p e ns h = inr (first_tile parts p e ns h)
  row_covers (Opt y) p e ns (inl h) = inr (turn_tile (y ∷ []) p e ns h)
  row_covers (Opt y) p e ns (inr h) = inl h.1.0
  row_covers (Many y) p e ns h = inr (items_tile y p e ns h)
  row_covers (ListOf y t) p e ns (inl h) = inr (turn_tile (y ∷ t ∷ []) p e ns h)
  row_covers (ListOf y t) p e ns (inr h) = inl h.1.0
  row_covers (List1 y t) p e ns h = inr (turn_tile (y ∷ t ∷ []) p e ns h)
  row_covers (Tail y s) p e ns h = inr (following_tile y s p e ns h)
  row_covers (If parts k y) p e ns (inl h) = inr (turn_tile (parts ++ y ∷ []) p e ns h.1)
  row_covers (If parts k y) p e ns (inr h) = inr (turn_tile parts p e ns h.1)
  row_covers (Bytes b) p e ns h = inl h
  row_covers (OneOf c) p e ns h = inl h
  row_covers (NotNext c) p e ns h = inl h
  row_covers (Run c) p e ns h = inl h
  row_covers (Past b) p e ns h = inl h

take_none : (n : ℕ) (xs : List ℕ) → xs ≡ [] → take n xs ≡ []
take_none zero xs e = refl
take_none (suc n) [] e = refl
take_none (suc n) (x ∷ xs) e = cc

-- the bytes to a place, and from it on
take_on : (a b : ℕ) (xs : List ℕ) → take a xs ++ take b (drop a xs) ≡ take (a + b) xs
take_on zero b xs = let e : b ≡ 0 + b = omega arith in ap (λ z. take z xs) e
take_on (suc a) b [] = take_none b [] refl ∙ sym (take_none (suc a + b) [] refl)
take_on (suc a) b (x ∷ xs) = let e : suc (a + b) ≡ suc a + b = omega arith in ap (λ s. x ∷ s) (take_on a b xs) ∙ ap (λ z. take z (x ∷ xs)) e

pub between_on : (text : List ℕ) (p q e : ℕ) → p ≤ q → q ≤ e → between text p q ++ between text q e ≡ between text p e
between_on text p q e l m =
    let from : p + (q - p) ≡ q = omega arith in
    let to : (q - p) + (e - q) ≡ e - p = omega arith in
    ap (λ s. between text p q ++ take (e - q) s) (ap (λ z. drop z text) (sym from) ∙ sym (drop-drop (q - p) p text)) ∙ take_on (q - p) (e - q) (drop p text) ∙ ap (λ z. take z (drop p text)) to

between_none : (text : List ℕ) (p e : ℕ) → e ≡ p → [] ≡ between text p e
between_none text p e h = let z : e - p ≡ 0 = omega arith in ap (λ k. take k (drop p text)) (sym z)

chosen_first : (b : Bool) (s t : List ℕ) → b ≡ true → (if b then [] else s) ++ t ≡ t
chosen_first true s t h = refl
chosen_first false s t h = cc

chosen_second : (b : Bool) (s t : List ℕ) → b ≡ false → (if b then [] else s) ++ t ≡ s ++ t
chosen_second true s t h = cc
chosen_second false s t h = refl

lt_true : (a b : ℕ) → a < b → nat_lt a b ≡ true
lt_true a b h = lt-ltb a b h

lt_false : (a b : ℕ) → b ≤ a → nat_lt a b ≡ false
lt_false a b h = le-ltb a b h

module _ (text : List ℕ) where
  -- a node whose first part comes next
  deeper : (n m : Node) (inner ns : List Node) → AreNodes text (m ∷ inner) ns → m.depth ≡ n.depth + 1 → leaves_of text (n ∷ ns) ≡ leaves_of text ns
  deeper n m inner [] a h = cc
  deeper n m inner (o ∷ ns) (under, more, is, parts, a) h =
      let same : m ≡ o = cc in
      let depth : o.depth ≡ n.depth + 1 = subst (λ x. x.depth ≡ n.depth + 1) same h in
      chosen_first (nat_lt n.depth o.depth) (between text n.start n.end) (leaves_of text (o ∷ ns)) (lt_true n.depth o.depth (omega arith))

  -- a node without parts
  no_deeper : (n : Node) (ns others : List Node) → AreNodes text others ns → Rise n.depth others → leaves_of text (n ∷ ns) ≡ between text n.start n.end ++ leaves_of text ns
  no_deeper n [] others a r = sym (append-nil (between text n.start n.end))
  no_deeper n (m ∷ ns) others (inner, more, is, parts, a) r =
      let k = subst (Rise n.depth) is r in
      chosen_second (nat_lt n.depth m.depth) (between text n.start n.end) (leaves_of text (m ∷ ns)) (lt_false n.depth m.depth k.0)

  by_parts : (n : Node) (ns inner others : List Node) (e : ℕ) → ((w : List Node) (q d : ℕ) → AreNodes text w ns → Tile q e w → Rise d w → leaves_of text ns ≡ between text q e)
      → AreNodes text (inner ++ others) ns → (inner ≡ []) ⊎ (Tile n.start n.end inner × Level (n.depth + 1) inner) → n.start ≤ n.end → Tile n.end e others → Rise n.depth others
      → leaves_of text (n ∷ ns) ≡ between text n.start e
  by_parts n ns [] others e rest a c l t r =
      no_deeper n ns others a r ∙ ap (λ s. between text n.start n.end ++ s) (rest others n.end n.depth a t r) ∙ between_on text n.start n.end e l (tile_on n.end e others t)
  by_parts n ns (m ∷ inner) others e rest a (inl c) l t r = cc
  by_parts n ns (m ∷ inner) others e rest a (inr c) l t r =
      deeper n m (inner ++ others) ns a c.1.0
      ∙ rest ((m ∷ inner) ++ others) n.start (n.depth + 1) a (tile_append n.start n.end e (m ∷ inner) others c.0 t) (rise_append (n.depth + 1) (m ∷ inner) others c.1 (rise_more n.depth (n.depth + 1) others (omega arith) r))

  pub leaves_are : (ns waiting : List Node) (p e d : ℕ) → AreNodes text waiting ns → Tile p e waiting → Rise d waiting → leaves_of text ns ≡ between text p e
  leaves_are [] waiting p e d a t r = between_none text p e (subst (Tile p e) a t)
  leaves_are (n ∷ ns) waiting p e d (inner, others, is, parts, a) t r =
      let tile = subst (Tile p e) is t in
      let rise = subst (Rise d) is r in
      let at : n.start ≡ p = tile.0 in
      let on : p ≤ n.end = tile.1 in
      by_parts n ns inner others e (λ w q k. leaves_are ns w q e k) a (row_covers text (n.depth + 1) (row_of n.rule) n.start n.end inner parts) (omega arith) tile.2 rise.1 ∙ ap (λ z. between text z e) at

-- of all nodes of the definitions up to a place
module _ (text : List ℕ) (end : ℕ) where
  pub leaves_join : (ns : List Node) → AreAll text end ns → leaves_of text ns ≡ between text 0 end
  leaves_join ns h = leaves_are text ns (root_to end ∷ []) 0 end 0 h (refl, omega arith, refl) (omega arith, tt)

  pub syntax_joins : (ns : List Node) → IsSyntaxTo text end ns → leaves_of text ns ≡ between text 0 end
  syntax_joins ns h = leaves_join ns (nodes_of text (root_to end ∷ []) ns h)

-- a text is what is between its ends
pub whole_between : (text : List ℕ) → between text 0 (length text) ≡ text
whole_between text = ap (λ z. take z text) (all (length text)) ∙ take_all (length text) text (omega arith)
  where
    all : (n : ℕ) → n - 0 ≡ n
    all n = omega arith
