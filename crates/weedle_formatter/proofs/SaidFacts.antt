-- The words of nodes, but those of trivia, are those of what the nodes say.
use Rattle.std.proofs.Common.{◌≡◌, inl, inr, ℕ, ◌+◌, ◌<◌, ◌≤◌, List, [], ◌∷◌, ◌++◌, Bool, true, false, refl, sym, subst, ◌∙◌, ap, arith, append_assoc, lt-ltb, le-ltb, ne_eqb}
use Rattle.std.specs.Prelude.{nat_lt, if◌then◌else◌, ◌||◌, ◌==◌, not}
use Rattle.weedle_grammar.specs.Meaning.{between}
use Rattle.weedle_grammar.specs.written.Table.{row_of}
use Rattle.weedle_grammar.specs.written.Table.Trivia.{TRIVIA}
use Rattle.weedle_rules.proofs.PartEnds.{below as is_less}
use Rattle.weedle_syntax.specs.declared.node.Node.{Node}
use Rattle.weedle_syntax.specs.Parts.{HasParts}
use Rattle.weedle_syntax.specs.Syntax.{AreTrees, no_trees, a_tree}
use Rattle.weedle_syntax.proofs.ChildFacts.{Each}
use Rattle.weedle_syntax.proofs.LeafFacts.{Level, Covers, row_covers}
use Rattle.weedle_formatter.specs.Words.{is_left_out, Word, bytes_of, word_of, words_of}
use Rattle.weedle_formatter.proofs.Said.{Said, nothing, says, is_solid, word, flat}
use Rattle.weedle_formatter.proofs.Named.{is_trivia, parts_each, names_trivia}

-- of these words those that aren't of trivia
abbrev pub solid : List Word → List Word
solid [] = []
solid (w ∷ ws) = if is_solid w.rule then w ∷ solid ws else solid ws

-- the bytes that a node has of its own: none where it reads others
abbrev pub own : List ℕ → Node → List Node → List ℕ
own text n [] = between text n.start n.end
own text n (m ∷ inner) = []

-- what nodes say; what is below a node of trivia is left out too
abbrev pub said : {text : List ℕ} {w ns : List Node} → AreTrees text w ns → Said
said (no_trees e) = nothing
said {text} (a_tree {n = n} {inner = inner} p a b e) = if is_solid n.rule then says n.rule (own text n inner) (said a) (said b) else said b

or_false : (a b : Bool) → a ≡ false → b ≡ false → a || b ≡ false
or_false true b h k = cc
or_false false b h k = k

not_left_out : (r : ℕ) → is_solid r ≡ true → is_left_out r ≡ false
not_left_out r h =
    let l : 14 < r = is_less TRIVIA r h in
    let other : (k : ℕ) → k ≤ 14 → (r == k) ≡ false = λ k m. ne_eqb r k (λ e. omega (arith, e, l, m)) in
    or_false _ _ (or_false _ _ (other 0 (omega arith)) (other 1 (omega arith)))
    (or_false _ _ (other 7 (omega arith)) (or_false _ _ (other 8 (omega arith)) (or_false _ _ (other 9 (omega arith)) (other 13 (omega arith)))))

kept_word : (left_out : Bool) (w : Word) (ws : List Word) → is_solid w.rule ≡ true → left_out ≡ false → solid (if left_out then ws else w ∷ ws) ≡ w ∷ solid ws
kept_word true w ws h k = cc
kept_word false w ws h k = ap (λ b. if b then w ∷ solid ws else solid ws) h

dropped_word : (left_out : Bool) (w : Word) (ws : List Word) → is_solid w.rule ≡ false → solid (if left_out then ws else w ∷ ws) ≡ solid ws
dropped_word true w ws h = refl
dropped_word false w ws h = ap (λ b. if b then w ∷ solid ws else solid ws) h

not_true : (b : Bool) → not b ≡ true → b ≡ false
not_true true h = cc
not_true false h = refl

-- the first of these nodes, if there is any, is no deeper than d
abbrev pub NoDeeper : ℕ → List Node → Type 0
NoDeeper d [] = Unit {0}
NoDeeper d (n ∷ ns) = n.depth ≤ d

no_deeper_more : (d : ℕ) (ns : List Node) → NoDeeper d ns → NoDeeper (d + 1) ns
no_deeper_more d [] h = tt
no_deeper_more d (n ∷ ns) h = omega (arith, h)

pick_first : (b : Bool) (s t : List ℕ) → b ≡ true → (if b then s else t) ≡ s
pick_first true s t h = refl
pick_first false s t h = cc

pick_second : (b : Bool) (s t : List ℕ) → b ≡ false → (if b then s else t) ≡ t
pick_second true s t h = cc
pick_second false s t h = refl

module _ (text : List ℕ) where
  abbrev solid_of : List Node → List Word
  solid_of ns = solid (words_of text ns)

  solid_here : (n : Node) (ns : List Node) → is_solid n.rule ≡ true → solid_of (n ∷ ns) ≡ word_of text n ns ∷ solid_of ns
  solid_here n ns h = kept_word (is_left_out n.rule) (word_of text n ns) (words_of text ns) h (not_left_out n.rule h)

  trivia_here : (n : Node) (ns : List Node) → is_solid n.rule ≡ false → solid_of (n ∷ ns) ≡ solid_of ns
  trivia_here n ns h = dropped_word (is_left_out n.rule) (word_of text n ns) (words_of text ns) h

  nodes_are : (n : Node) (ns below behind rest : List Node) → ns ≡ n ∷ below ++ behind → ns ++ rest ≡ n ∷ below ++ (behind ++ rest)
  nodes_are n ns below behind rest e = ap (λ z. z ++ rest) e ∙ ap (λ z. n ∷ z) (append_assoc below behind rest)

  trivia_parts : (n : Node) (inner : List Node) → is_trivia n.rule ≡ true → HasParts text n inner → Each (λ m. is_trivia m.rule ≡ true) inner
  trivia_parts n inner h p = parts_each text (n.depth + 1) is_trivia (λ m. is_trivia m.rule ≡ true) (λ r q m t i. ap is_trivia i.rule_is ∙ t) (row_of n.rule) n.start n.end inner (names_trivia n.rule h) p

  -- nodes of trivia say nothing
  none_said : {w ns : List Node} (rest : List Node) → AreTrees text w ns → Each (λ n. is_trivia n.rule ≡ true) w → solid_of (ns ++ rest) ≡ solid_of rest
  none_said rest (no_trees e) h = ap (λ z. solid_of (z ++ rest)) e
  none_said rest (a_tree {n = n} {inner = inner} {below = below} {behind = behind} p a b e) h =
      ap solid_of (nodes_are n _ below behind rest e) ∙ trivia_here n (below ++ (behind ++ rest)) (not_true _ h.0) ∙ none_said (behind ++ rest) a (trivia_parts n inner h.0 p) ∙ none_said rest b h.1

  pub level_of : (n : Node) (inner : List Node) → HasParts text n inner → Level (n.depth + 1) inner
  level_of n inner p = by (row_covers text (n.depth + 1) (row_of n.rule) n.start n.end inner p)
    where
      by : Covers text (n.depth + 1) n.start n.end inner → Level (n.depth + 1) inner
      by (inl e) = subst (Level (n.depth + 1)) (sym e) tt
      by (inr c) = c.1

  behind_no_deeper : {others behind : List Node} (d : ℕ) (rest : List Node) → AreTrees text others behind → Level d others → NoDeeper d rest → NoDeeper d (behind ++ rest)
  behind_no_deeper d rest (no_trees e) l h = subst (λ z. NoDeeper d (z ++ rest)) (sym e) h
  behind_no_deeper d rest (a_tree {n = n} p a b e) l h = subst (λ z. NoDeeper d (z ++ rest)) (sym e) (let k : n.depth ≡ d = l.0 in omega (arith, k))

  own_is : {inner below : List Node} (n : Node) (rest : List Node) → AreTrees text inner below → Level (n.depth + 1) inner → NoDeeper n.depth rest → bytes_of text n (below ++ rest) ≡ own text n inner
  own_is n [] (no_trees e) l h = ap (λ z. bytes_of text n (z ++ [])) e
  own_is n (m ∷ rest) (no_trees e) l h = ap (λ z. bytes_of text n (z ++ m ∷ rest)) e ∙ pick_second _ [] (between text n.start n.end) (le-ltb n.depth m.depth h)
  own_is n rest (a_tree {n = m} p a b e) l h =
      ap (λ z. bytes_of text n (z ++ rest)) e ∙ pick_first (nat_lt n.depth m.depth) [] (between text n.start n.end) (lt-ltb n.depth m.depth (let k : m.depth ≡ n.depth + 1 = l.0 in omega (arith, k)))

  same_word : (n : Node) (ns : List Node) (d : ℕ) (b : List ℕ) → n.depth ≡ d → bytes_of text n ns ≡ b → word_of text n ns ≡ word n.rule d b
  same_word n ns d b e f = λ i. word n.rule (e i) (f i)

  -- a node before others, whether it is of trivia or not
  by_rule : (d : ℕ) (n : Node) (inner ns : List Node) (below behind : Said) (s : List Word) (b : Bool) → is_solid n.rule ≡ b
      → (b ≡ true → word_of text n ns ≡ word n.rule d (own text n inner)) → solid_of ns ≡ flat (d + 1) below ++ (flat d behind ++ s) → (not b ≡ true → solid_of ns ≡ flat d behind ++ s)
      → solid_of (n ∷ ns) ≡ flat d (if b then says n.rule (own text n inner) below behind else behind) ++ s
  by_rule d n inner ns below behind s true h f g k =
      solid_here n ns h ∙ ap (λ z. z ∷ solid_of ns) (f refl) ∙ ap (λ z. word n.rule d (own text n inner) ∷ z) (g ∙ sym (append_assoc (flat (d + 1) below) (flat d behind) s))
  by_rule d n inner ns below behind s false h f g k = trivia_here n ns h ∙ k refl

  -- the words of nodes of depth d, before those of others that are no deeper
  pub words_said : {w ns : List Node} (d : ℕ) (rest : List Node) (a : AreTrees text w ns) → Level d w → NoDeeper d rest → solid_of (ns ++ rest) ≡ flat d (said a) ++ solid_of rest
  words_said d rest (no_trees e) l h = ap (λ z. solid_of (z ++ rest)) e
  words_said d rest (a_tree {n = n} {inner = inner} {below = below} {behind = behind} p a b e) l h =
      let after : solid_of (behind ++ rest) ≡ flat d (said b) ++ solid_of rest = words_said d rest b l.1 h in
      let no_deeper : NoDeeper d (behind ++ rest) = behind_no_deeper d rest b l.1 h in
      let level : Level (d + 1) inner = subst (λ z. Level (z + 1) inner) l.0 (level_of n inner p) in
      let under : solid_of (below ++ (behind ++ rest)) ≡ flat (d + 1) (said a) ++ solid_of (behind ++ rest) = words_said (d + 1) (behind ++ rest) a level (no_deeper_more d _ no_deeper) in
      ap solid_of (nodes_are n _ below behind rest e)
      ∙ by_rule d n inner (below ++ (behind ++ rest)) (said a) (said b) (solid_of rest) (is_solid n.rule) refl
      (λ s. same_word n (below ++ (behind ++ rest)) d (own text n inner) l.0 (own_is n (behind ++ rest) a (level_of n inner p) (subst (λ z. NoDeeper z (behind ++ rest)) (sym l.0) no_deeper)))
      (under ∙ ap (λ z. flat (d + 1) (said a) ++ z) after)
      (λ s. none_said (behind ++ rest) a (trivia_parts n inner s p) ∙ after)
