-- Texts that say the same are read as the same trees.
use Rattle.std.proofs.Common.{◌≡◌, inl, inr, ℕ, ◌+◌, List, [], ◌∷◌, ◌++◌, length, Bool, true, false, refl, sym, subst, ◌∙◌, ap, append-nil}
use Rattle.std.specs.Prelude.{if◌then◌else◌}
use Rattle.weedle_grammar.specs.Trees.{Tree, Gives}
use Rattle.weedle_grammar.specs.Meaning.{Raw, Breaks, Yields, ReadsRow, by_row, between, shaped}
use Rattle.weedle_grammar.specs.written.Table.{webidl, row_of, shape_of, Reads}
use Rattle.weedle_grammar.proofs.Unique.{one_outcome}
use Rattle.weedle_rules.specs.Outcomes.{EndsAt}
use Rattle.weedle_syntax.specs.declared.dialect.Dialect.{Dialect}
use Rattle.weedle_syntax.specs.declared.dialect.Dialect.TheVariants.{Weedle2, Today}
use Rattle.weedle_syntax.specs.declared.node.Node.{Node}
use Rattle.weedle_syntax.specs.Dialects.{start_of, IsWholeIn, IsSyntaxIn}
use Rattle.weedle_syntax.specs.Parts.{IsNode, HasParts}
use Rattle.weedle_syntax.specs.Syntax.{AreTrees, no_trees, a_tree, node_to}
use Rattle.weedle_syntax.proofs.ChildFacts.{Each}
use Rattle.weedle_syntax.proofs.LeafFacts.{Covers, row_covers}
use Rattle.weedle_formatter.specs.Words.{SaysTheSameIn, ReadsAsIn, IsReadAlikeIn, words_of}
use Rattle.weedle_formatter.proofs.LawFacts.{turned}
use Rattle.weedle_formatter.proofs.Said.{Said, says, is_solid, flat, one_said}
use Rattle.weedle_formatter.proofs.Named.{is_pure, parts_each, told, names_any, names_pure}
use Rattle.weedle_formatter.proofs.SaidFacts.{own, said, solid, words_said}
use Rattle.weedle_formatter.proofs.Told.{Told, all_bytes, gives, one_told, all_told}
use Rattle.weedle_formatter.proofs.ToldFacts.{AreTold, none_told, a_told, left_out, front, of_none, same_gives, pure_bytes}
use Rattle.weedle_formatter.proofs.RowFacts.{formed_told}

-- a node's rule is read from its start to its end
abbrev IsRead : List ℕ → Node → Type 0
IsRead text n = EndsAt text n.rule n.start n.end

module _ (text : List ℕ) where
  parts_read : (n : Node) (inner : List Node) → HasParts text n inner → Each (IsRead text) inner
  parts_read n inner h = parts_each text (n.depth + 1) (λ x. true) (IsRead text) so (row_of n.rule) n.start n.end inner (names_any n.rule) h
    where
      so : (r p : ℕ) (m : Node) → true ≡ true → IsNode text r (n.depth + 1) p m → IsRead text m
      so r p m t i = subst (λ x. EndsAt text x m.start m.end) (sym i.rule_is) (subst (λ x. EndsAt text r x m.end) (sym i.start_is) i.reads)

  -- the bytes that a node says which gives nothing
  node_bytes : (n : Node) (inner : List Node) (cs : List Told) → is_pure n.rule ≡ true → HasParts text n inner → AreTold text inner cs → own text n inner ++ all_bytes cs ≡ between text n.start n.end
  node_bytes n [] cs t h a = ap (λ z. between text n.start n.end ++ all_bytes z) (of_none a) ∙ append-nil (between text n.start n.end)
  node_bytes n (m ∷ inner) cs t h a = by (row_covers text (n.depth + 1) (row_of n.rule) n.start n.end (m ∷ inner) h)
    where
      pure : Each (λ o. is_pure o.rule ≡ true) (m ∷ inner)
      pure = parts_each text (n.depth + 1) is_pure (λ o. is_pure o.rule ≡ true) (λ r p o u i. ap is_pure i.rule_is ∙ u) (row_of n.rule) n.start n.end (m ∷ inner) (names_pure n.rule t) h

      by : Covers text (n.depth + 1) n.start n.end (m ∷ inner) → all_bytes cs ≡ between text n.start n.end
      by (inl e) = absurd (let z : ⊥ = cc in z)
      by (inr c) = pure_bytes text n.start n.end (m ∷ inner) cs pure c.0 a

  gives_told : (n : Node) (inner : List Node) (cs : List Told) (ts : List Tree) (w : Raw) → HasParts text n inner → AreTold text inner cs → ReadsRow webidl text (row_of n.rule) n.start w
      → Gives ts n.end ≡ shaped text (row_of n.rule) (shape_of n.rule) n.start w → ts ≡ gives (shape_of n.rule) (row_of n.rule) cs
  gives_told n inner cs ts Breaks h a d e = cc
  gives_told n inner cs ts (Yields us ends z) h a d e =
      let same = same_gives _ _ _ _ e in
      same.0 ∙ formed_told text (n.depth + 1) (shape_of n.rule) (row_of n.rule) n.start n.end inner cs us ends (told n.rule) h a (subst (λ x. ReadsRow webidl text (row_of n.rule) n.start (Yields us ends x)) (sym same.1) d)

  node_gives : (n : Node) (inner : List Node) (cs : List Told) → HasParts text n inner → AreTold text inner cs → IsRead text n → Reads text n.rule n.start (Gives (gives (shape_of n.rule) (row_of n.rule) cs) n.end)
  node_gives n inner cs h a (ts, by_row {w = w} d e) = subst (λ x. Reads text n.rule n.start (Gives x n.end)) (gives_told n inner cs ts w h a d e) (by_row d e)

  -- a node before others, whether it is of trivia or not
  told_on : (n : Node) (inner others : List Node) (below behind : Said) → HasParts text n inner → IsRead text n → AreTold text inner (all_told below) → AreTold text others (all_told behind)
      → (s : Bool) → is_solid n.rule ≡ s → AreTold text (n ∷ others) (all_told (if s then says n.rule (own text n inner) below behind else behind))
  told_on n inner others below behind h d a b true s =
      a_told {b = one_told n.rule (own text n inner) (all_told below)} s (record { rule_is = refl; reads = node_gives n inner (all_told below) h a d; bytes_are = λ t. node_bytes n inner (all_told below) t h a }) b refl
  told_on n inner others below behind h d a b false s = left_out s b

  -- what is told of nodes by what they say is what they give
  nodes_told : {w ns : List Node} (a : AreTrees text w ns) → Each (IsRead text) w → AreTold text w (all_told (said a))
  nodes_told (no_trees e) h = none_told refl
  nodes_told (a_tree {n = n} {inner = inner} {others = others} p a b e) h =
      told_on n inner others (said a) (said b) p h.0 (nodes_told a (parts_read n inner p)) (nodes_told b h.1) (is_solid n.rule) refl

  -- the words of a whole text
  all_said : (dialect : Dialect) (ns : List Node) (a : IsSyntaxIn dialect text ns) → solid (words_of text ns) ≡ flat 0 (said a)
  all_said dialect ns a = ap (λ z. solid (words_of text z)) (sym (append-nil ns)) ∙ words_said text 0 [] a (refl, tt) tt ∙ append-nil (flat 0 (said a))

  -- the rule of a whole text isn't of trivia
  start_solid : (dialect : Dialect) → is_solid (start_of dialect) ≡ true
  start_solid Weedle2 = refl
  start_solid Today = refl

  -- its trees
  whole_told : (dialect : Dialect) (ns : List Node) (a : IsSyntaxIn dialect text ns) → IsWholeIn dialect text → (b : Told) × (bs : List Told) × (all_told (said a) ≡ b ∷ bs) × ReadsAsIn dialect text b.given
  whole_told dialect ns a w =
      let f = front {n = node_to (start_of dialect) (length text)} (start_solid dialect) (nodes_told a (w, tt)) in
      (f.first, f.others, f.is, f.told.reads)

same_head : (b c : Told) (bs cs : List Told) → b ∷ bs ≡ c ∷ cs → b ≡ c
same_head b c bs cs e = ap head e
  where
    head : List Told → Told
    head [] = b
    head (x ∷ xs) = x

forth : (d : Dialect) (a b : List ℕ) → SaysTheSameIn d a b → (ts : List Tree) → ReadsAsIn d a ts → ReadsAsIn d b ts
forth d a b s ts h =
    let one : flat 0 (said s.raw_is) ≡ flat 0 (said s.out_is) = sym (all_said a d s.raw_nodes s.raw_is) ∙ ap solid s.same ∙ all_said b d s.out_nodes s.out_is in
    let same : said s.raw_is ≡ said s.out_is = (one_said 0 (said s.raw_is) (said s.out_is) [] [] tt tt (ap (λ z. z ++ []) one)).0 in
    let (first, others, is, reads) = whole_told a d s.raw_nodes s.raw_is s.raw_whole in
    let (second, more, also, gives) = whole_told b d s.out_nodes s.out_is s.out_whole in
    let given : first ≡ second = same_head _ _ _ _ (sym is ∙ ap all_told same ∙ also) in
    let trees : first.given ≡ ts = (same_gives _ _ _ _ (one_outcome reads h refl)).0 in
    subst (ReadsAsIn d b) (ap (λ z. z.given) (sym given) ∙ trees) gives

-- one gives what the other gives
pub same_reading : (d : Dialect) (a b : List ℕ) → SaysTheSameIn d a b → IsReadAlikeIn d a b
unfolding IsReadAlikeIn
same_reading d a b s = λ ts. (forth d a b s ts, forth d b a (turned d a b s) ts)

-- a text that stays as it is
pub read_as_itself : (d : Dialect) (raw out : List ℕ) → out ≡ raw → IsReadAlikeIn d raw out
unfolding IsReadAlikeIn
read_as_itself d raw out e ts = (subst (λ z. ReadsAsIn d z ts) (sym e), subst (λ z. ReadsAsIn d z ts) e)
