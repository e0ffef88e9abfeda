-- What nodes give is told by what they say.
use Rattle.std.proofs.Common.{◌≡◌, inl, inr, ℕ, zero, suc, ◌-◌, List, [], ◌∷◌, ◌++◌, length, drop, take, Bool, true, false, Option, Some, None, refl, sym, subst, ◌∙◌, ap, arith}
use Rattle.std.specs.Prelude.{if◌then◌else◌}
use Rattle.std.specs.List.{list_all}
use Rattle.weedle_grammar.specs.Rows.{Row}
use Rattle.weedle_grammar.specs.Trees.{Tree, Gives}
use Rattle.weedle_grammar.specs.Meaning.{Shape, Silent, Piece, piece, Raw, Breaks, Yields, ReadsSeq, by_row, between, shaped, with_piece, given_of, ends_of, kept}
use Rattle.weedle_grammar.specs.written.Table.{webidl, row_of, shape_of, Reads}
use Rattle.weedle_grammar.proofs.Leaves.{both}
use Rattle.weedle_grammar.proofs.Unique.{one_outcome}
use Rattle.weedle_grammar.proofs.Inversion.{of_no_parts, of_parts}
use Rattle.weedle_syntax.specs.declared.node.Node.{Node}
use Rattle.weedle_syntax.specs.Parts.{IsNode, AreInTurn}
use Rattle.weedle_syntax.proofs.ChildFacts.{Each}
use Rattle.weedle_syntax.proofs.LeafFacts.{Tile, tile_on, between_on}
use Rattle.weedle_formatter.proofs.Said.{is_solid}
use Rattle.weedle_formatter.proofs.Named.{is_pure, pure_at, is_silent, trivia_silent}
use Rattle.weedle_formatter.proofs.Told.{Told, all_given, all_bytes, bytes_at}

-- a node gives what is told, and says these bytes if it gives nothing
pub record IsTold (text : List ℕ) (n : Node) (b : Told) : Type 0 where
  pub rule_is : b.rule ≡ n.rule
  pub reads : Reads text n.rule n.start (Gives b.given n.end)
  pub bytes_are : is_pure n.rule ≡ true → b.bytes ≡ between text n.start n.end

-- each node gives what is told, in order; those of trivia are left out
pub data AreTold (text : List ℕ) : List Node → List Told → Type 0 where
  none_told : {bs : List Told} → bs ≡ [] → AreTold text [] bs
  a_told : {n : Node} {ns : List Node} {b : Told} {bs cs : List Told} → is_solid n.rule ≡ true → IsTold text n b → AreTold text ns bs → cs ≡ b ∷ bs
      → AreTold text (n ∷ ns) cs
  left_out : {n : Node} {ns : List Node} {bs : List Told} → is_solid n.rule ≡ false → AreTold text ns bs → AreTold text (n ∷ ns) bs

pub clash : {A : Type 0} (b : Bool) → b ≡ true → b ≡ false → A
clash b h k = cc

-- a node and those behind it
pub record Front (text : List ℕ) (n : Node) (ns : List Node) (cs : List Told) : Type 0 where
  pub first : Told
  pub others : List Told
  pub is : cs ≡ first ∷ others
  pub told : IsTold text n first
  pub rest : AreTold text ns others

module _ {text : List ℕ} where
  pub front : {n : Node} {ns : List Node} {cs : List Told} → is_solid n.rule ≡ true → AreTold text (n ∷ ns) cs → Front text n ns cs
  front h (a_told s i a e) = record { first = _; others = _; is = e; told = i; rest = a }
  front {n} h (left_out s a) = clash (is_solid n.rule) h s

  pub behind : {n : Node} {ns : List Node} {cs : List Told} → is_solid n.rule ≡ false → AreTold text (n ∷ ns) cs → AreTold text ns cs
  behind {n} h (a_told s i a e) = clash (is_solid n.rule) s h
  behind h (left_out s a) = a

  pub of_none : {cs : List Told} → AreTold text [] cs → cs ≡ []
  of_none (none_told e) = e

  pub of_no_nodes : {ns : List Node} {cs : List Told} → ns ≡ [] → AreTold text ns cs → cs ≡ []
  of_no_nodes {cs = cs} e a = of_none (subst (λ z. AreTold text z cs) e a)

pub same_gives : (ts us : List Tree) (p q : ℕ) → Gives ts p ≡ Gives us q → (ts ≡ us) × (p ≡ q)
same_gives ts us p q e = (cc, cc)

module _ {text : List ℕ} where
  -- what is told of a node is what its rule gives
  pub told_given : {r d p q : ℕ} {n : Node} {b : Told} {ts : List Tree} → IsNode text r d p n → IsTold text n b → Reads text r p (Gives ts q) → (ts ≡ b.given) × (q ≡ n.end)
  told_given {r} {p = p} {n = n} {b = b} i t h =
      same_gives _ _ _ _ (one_outcome h (subst (λ x. Reads text x n.start (Gives b.given n.end)) i.rule_is t.reads) (sym i.start_is))

  pub node_end : {r d p q : ℕ} {n : Node} {ts : List Tree} → IsNode text r d p n → Reads text r p (Gives ts q) → q ≡ n.end
  node_end i h = (same_gives _ _ _ _ (one_outcome h i.reads.1 refl)).1

silent_none : (shape : Shape) (row : Row) (text : List ℕ) (p q : ℕ) (w : Raw) (ts : List Tree) → is_silent shape ≡ true → Gives ts q ≡ shaped text row shape p w → ts ≡ []
silent_none Silent row text p q Breaks ts h e = cc
silent_none Silent row text p q (Yields us ends z) ts h e = (same_gives _ _ _ _ e).0
silent_none shape row text p q w ts h e = cc

-- trivia gives nothing
pub trivia_gives : {text : List ℕ} {r p q : ℕ} {ts : List Tree} → is_solid r ≡ false → Reads text r p (Gives ts q) → ts ≡ []
trivia_gives {text} {r} {p} {q} {ts} h (by_row {w = w} d e) = silent_none (shape_of r) (row_of r) text p q w ts (trivia_silent r h) e

-- the first of rules that are read one after another
pub record Begun (text : List ℕ) (r : ℕ) (rs : List ℕ) (p q : ℕ) (pieces : List Piece) : Type 0 where
  pub given : List Tree
  pub others : List Piece
  pub is : pieces ≡ piece given q ∷ others
  pub reads : Reads text r p (Gives given q)
  pub more : ReadsSeq webidl text rs q (Some others)

pub other_pieces : {text rs : List ℕ} {q : ℕ} {ts : List Tree} {pieces : List Piece} (v : Option (List Piece)) → Some pieces ≡ with_piece (piece ts q) v → ReadsSeq webidl text rs q v
    → (others : List Piece) × (pieces ≡ piece ts q ∷ others) × ReadsSeq webidl text rs q (Some others)
other_pieces None e m = cc
other_pieces (Some others) e m = (others, cc, m)

module _ {text : List ℕ} {d : ℕ} where
  pub begun : {r p : ℕ} {rs : List ℕ} {n : Node} {pieces : List Piece} → IsNode text r d p n → ReadsSeq webidl text (r ∷ rs) p (Some pieces) → Begun text r rs p n.end pieces
  begun {r} {p} {rs} {n} {pieces} i h = elim (of_parts h) [
    | inl k ↦ absurd (let e = k.1 in let z : ⊥ = cc in z)
    | inr (ts, q, v, given, more, e) ↦ (
        let same : q ≡ n.end = node_end i given in
        let o = other_pieces v e more in
        record {
          given = ts;
          others = o.0;
          is = o.1 ∙ ap (λ z. piece ts z ∷ o.0) same;
          reads = subst (λ z. Reads text r p (Gives ts z)) same given;
          more = subst (λ z. ReadsSeq webidl text rs z (Some o.0)) same o.2;
        })
  ]

pub no_pieces : (pieces : List Piece) → Some pieces ≡ Some [] → pieces ≡ []
no_pieces pieces e = cc

module _ (text : List ℕ) (d : ℕ) where
  -- what a part gives, before what others give, whether the part is of trivia or not
  pub part_given : (r p q : ℕ) (n : Node) (ns : List Node) (bs : List Told) (ts us : List Tree) → IsNode text r d p n → AreTold text (n ∷ ns) bs → Reads text r p (Gives ts q)
      → ((cs : List Told) → AreTold text ns cs → us ≡ all_given cs) → (s : Bool) → is_solid r ≡ s → ts ++ us ≡ all_given bs
  part_given r p q n ns bs ts us i a h go true s =
      let f = front (ap is_solid i.rule_is ∙ s) a in
      ap (λ z. z ++ us) (told_given i f.told h).0 ∙ ap (λ z. f.first.given ++ z) (go f.others f.rest) ∙ sym (ap all_given f.is)
  part_given r p q n ns bs ts us i a h go false s = ap (λ z. z ++ us) (trivia_gives s h) ∙ go bs (behind (ap is_solid i.rule_is ∙ s) a)

  -- what a sequence gives
  pub turn_given : (rs : List ℕ) (p e : ℕ) (ns : List Node) (bs : List Told) (pieces : List Piece) → AreInTurn text rs d p e ns → AreTold text ns bs → ReadsSeq webidl text rs p (Some pieces)
      → given_of pieces ≡ all_given bs
  turn_given [] p e ns bs pieces h a m = ap given_of (no_pieces pieces (of_no_parts m)) ∙ sym (ap all_given (of_no_nodes h.0 a))
  turn_given (r ∷ rs) p e [] bs pieces h a m = absurd h
  turn_given (r ∷ rs) p e (n ∷ ns) bs pieces h a m =
      let b = begun h.0 m in
      ap given_of b.is ∙ part_given r p n.end n ns bs b.given (given_of b.others) h.0 a b.reads (λ cs c. turn_given rs n.end e ns cs b.others h.1 c b.more) (is_solid r) refl

  bytes_on : (r k p : ℕ) (rs : List ℕ) (n : Node) (ns : List Node) (bs : List Told) (pieces : List Piece) → IsNode text r d p n → AreTold text (n ∷ ns) bs → (b : Begun text r rs p n.end pieces)
      → ((cs : List Told) → AreTold text ns cs → kept text n.end (ends_of b.others) k ≡ bytes_at rs k cs) → (s : Bool) → is_solid r ≡ s → kept text p (ends_of pieces) (suc k) ≡ bytes_at (r ∷ rs) (suc k) bs
  bytes_on r k p rs n ns bs pieces i a b go true s =
      let f = front (ap is_solid i.rule_is ∙ s) a in
      ap (λ z. kept text p (ends_of z) (suc k)) b.is ∙ go f.others f.rest
      ∙ sym (ap (λ z. bytes_at rs k (drop 1 z)) f.is) ∙ ap (λ z. if z then bytes_at rs k (drop 1 bs) else bytes_at rs k bs) (sym s)
  bytes_on r k p rs n ns bs pieces i a b go false s =
      ap (λ z. kept text p (ends_of z) (suc k)) b.is ∙ go bs (behind (ap is_solid i.rule_is ∙ s) a)
      ∙ ap (λ z. if z then bytes_at rs k (drop 1 bs) else bytes_at rs k bs) (sym s)

  -- the bytes of a part that gives nothing
  pub turn_bytes : (rs : List ℕ) (k p e : ℕ) (ns : List Node) (bs : List Told) (pieces : List Piece) → pure_at rs k ≡ true → AreInTurn text rs d p e ns → AreTold text ns bs
      → ReadsSeq webidl text rs p (Some pieces) → kept text p (ends_of pieces) k ≡ bytes_at rs k bs
  turn_bytes [] k p e ns bs pieces t h a m = cc
  turn_bytes (r ∷ rs) k p e [] bs pieces t h a m = absurd h
  turn_bytes (r ∷ rs) zero p e (n ∷ ns) bs pieces t h a m =
      let b = begun h.0 m in
      let f = front (ap is_solid h.0.rule_is ∙ (both (is_solid r) _ t).0) a in
      ap (λ z. kept text p (ends_of z) 0) b.is ∙ ap (λ z. between text z n.end) (sym h.0.start_is) ∙ sym (f.told.bytes_are (ap is_pure h.0.rule_is ∙ t)) ∙ sym (ap (bytes_at (r ∷ rs) 0) f.is)
  turn_bytes (r ∷ rs) (suc k) p e (n ∷ ns) bs pieces t h a m =
      let b = begun h.0 m in
      bytes_on r k p rs n ns bs pieces h.0 a b (λ cs c. turn_bytes rs k n.end e ns cs b.others t h.1 c b.more) (is_solid r) refl

  -- there is one of each rule, where none is of trivia
  pub turn_length : (rs : List ℕ) (p e : ℕ) (ns : List Node) (bs : List Told) → list_all is_solid rs ≡ true → AreInTurn text rs d p e ns → AreTold text ns bs → length bs ≡ length rs
  turn_length [] p e ns bs t h a = ap length (of_no_nodes h.0 a)
  turn_length (r ∷ rs) p e [] bs t h a = absurd h
  turn_length (r ∷ rs) p e (n ∷ ns) bs t h a =
      let f = front (ap is_solid h.0.rule_is ∙ (both (is_solid r) _ t).0) a in
      ap length f.is ∙ ap suc (turn_length rs n.end e ns f.others (both (is_solid r) _ t).1 h.1 f.rest)

-- nodes that give nothing, one behind the other, say the bytes between their ends
none_between : (text : List ℕ) (p e : ℕ) → e ≡ p → [] ≡ between text p e
none_between text p e h = let z : e - p ≡ 0 = omega arith in ap (λ k. take k (drop p text)) (sym z)

pub pure_bytes : (text : List ℕ) (p e : ℕ) (ns : List Node) (bs : List Told) → Each (λ n. is_pure n.rule ≡ true) ns → Tile p e ns → AreTold text ns bs → all_bytes bs ≡ between text p e
pure_bytes text p e [] bs h t a = ap all_bytes (of_none a) ∙ none_between text p e t
pure_bytes text p e (n ∷ ns) bs h t a =
    let f = front (both (is_solid n.rule) _ h.0).0 a in
    ap all_bytes f.is ∙ ap (λ z. z ++ all_bytes f.others) (f.told.bytes_are h.0 ∙ ap (λ z. between text z n.end) t.0)
    ∙ ap (λ z. between text p n.end ++ z) (pure_bytes text n.end e ns f.others h.1 t.2 f.rest) ∙ between_on text p n.end e t.1 (tile_on n.end e ns t.2)
