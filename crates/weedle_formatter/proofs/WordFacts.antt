-- Words one after another.
use Rattle.std.proofs.Common.{◌≡◌, ◌↔◌, ℕ, ◌+◌, ◌<◌, ◌≤◌, List, [], ◌∷◌, length, drop, get_or, Bool, true, false, refl, sym, ◌∙◌, ap}
use Rattle.std.specs.Prelude.{if◌then◌else◌}
use Rattle.std.proofs.lemmas.List.{drop_more, drop_all}
use Rattle.weedle_syntax.specs.declared.node.Node.{Node}
use Rattle.weedle_formatter.specs.Words.{is_left_out, Word, word_of, words_of}

-- the node at a place is the first one from there on
pub read_is : (nodes : List Node) (i : ℕ) (r n : Node) (ns : List Node) → i < length nodes → drop i nodes ≡ n ∷ ns → get_or nodes i r ≡ n
read_is nodes i r n ns l a = ap first (sym (drop_more nodes i r l) ∙ a)
  where
    first : List Node → Node
    first [] = r
    first (m ∷ ms) = m

pub same_fields : (a b : Word) → a.rule ≡ b.rule → a.depth ≡ b.depth → a.bytes ≡ b.bytes → a ≡ b
same_fields a b e f g = λ k. record { rule = e k; depth = f k; bytes = g k }

-- the words from two places on, at neither of which a node is left out
pub record Going (raw : List ℕ) (nodes : List Node) (out : List ℕ) (others : List Node) (i j : ℕ) : Type 0 where
  pub within : i ≤ length nodes
  pub within_out : j ≤ length others
  pub word : (n : Node) (ns : List Node) → drop i nodes ≡ n ∷ ns → is_left_out n.rule ≡ false
  pub word_out : (n : Node) (ns : List Node) → drop j others ≡ n ∷ ns → is_left_out n.rule ≡ false
  pub so_far : (words_of raw nodes ≡ words_of out others) ↔ (words_of raw (drop i nodes) ≡ words_of out (drop j others))

none : Node
none = record { rule = 0; start = 0; end = 0; depth = 0 }

kept : (b : Bool) (rest more : List Word) → b ≡ false → (if b then rest else more) ≡ more
kept true rest more h = cc
kept false rest more h = refl

pub none_here : (w : Word) (ws : List Word) → w ∷ ws ≡ [] → ⊥
none_here w ws e = cc

pub same_first : (w v : Word) (ws vs : List Word) → w ∷ ws ≡ v ∷ vs → w ≡ v
same_first w v ws vs e = ap first e
  where
    first : List Word → Word
    first [] = w
    first (x ∷ xs) = x

pub same_rest : (w v : Word) (ws vs : List Word) → w ∷ ws ≡ v ∷ vs → ws ≡ vs
same_rest w v ws vs e = ap rest e
  where
    rest : List Word → List Word
    rest [] = ws
    rest (x ∷ xs) = xs

-- the node at a place, and the word there
module _ (text : List ℕ) (nodes : List Node) (i : ℕ) where
  abbrev At : Node
  At = get_or nodes i none

  abbrev Behind : List Node
  Behind = drop (i + 1) nodes

  abbrev WordHere : Word
  WordHere = word_of text At Behind

  word_here : i < length nodes → ((n : Node) (ns : List Node) → drop i nodes ≡ n ∷ ns → is_left_out n.rule ≡ false) → words_of text (drop i nodes) ≡ WordHere ∷ words_of text Behind
  word_here l h = ap (words_of text) (drop_more nodes i none l) ∙ kept _ _ _ (h At Behind (drop_more nodes i none l))

  no_words : length nodes ≤ i → words_of text (drop i nodes) ≡ []
  no_words l = ap (words_of text) (drop_all i nodes l)

module _ (raw : List ℕ) (nodes : List Node) (out : List ℕ) (others : List Node) (i j : ℕ) (g : Going raw nodes out others i j) where
  -- one list ends before the other
  pub ends_first : i < length nodes → length others ≤ j → words_of raw nodes ≡ words_of out others → ⊥
  ends_first l m e = none_here _ _ (sym (word_here raw nodes i l g.word) ∙ g.so_far.0 e ∙ no_words out others j m)

  pub ends_last : length nodes ≤ i → j < length others → words_of raw nodes ≡ words_of out others → ⊥
  ends_last m l e = none_here _ _ (sym (word_here out others j l g.word_out) ∙ sym (g.so_far.0 e) ∙ no_words raw nodes i m)

  pub both_end : length nodes ≤ i → length others ≤ j → words_of raw nodes ≡ words_of out others
  both_end l m = g.so_far.1 (no_words raw nodes i l ∙ sym (no_words out others j m))

  pub ended : (b : Bool) → length nodes ≤ i → (b ≡ true → length others ≤ j) → (b ≡ false → j < length others) → (b ≡ true) ↔ (words_of raw nodes ≡ words_of out others)
  ended true l h n = (λ t. both_end l (h refl), λ e. refl)
  ended false l h n = (λ t. absurd (let f : ⊥ = cc in f), λ e. absurd (ends_last l (n refl) e))

  -- both go on
  module _ (l : i < length nodes) (m : j < length others) (b : Bool)
      (says : (n o : Node) (ns os : List Node) → drop i nodes ≡ n ∷ ns → drop j others ≡ o ∷ os → (b ≡ true) ↔ (word_of raw n ns ≡ word_of out o os)) where
    here : (b ≡ true) ↔ (WordHere raw nodes i ≡ WordHere out others j)
    here = says _ _ _ _ (drop_more nodes i none l) (drop_more others j none m)

    both : words_of raw nodes ≡ words_of out others → WordHere raw nodes i ∷ words_of raw (drop (i + 1) nodes) ≡ WordHere out others j ∷ words_of out (drop (j + 1) others)
    both e = sym (word_here raw nodes i l g.word) ∙ g.so_far.0 e ∙ word_here out others j m g.word_out

    pub differ : b ≡ false → words_of raw nodes ≡ words_of out others → ⊥
    differ f e = let t : b ≡ true = here.1 (same_first _ _ _ _ (both e)) in let n : ⊥ = cc in n

    pub goes_on : b ≡ true → (words_of raw nodes ≡ words_of out others) ↔ (words_of raw (drop (i + 1) nodes) ≡ words_of out (drop (j + 1) others))
    goes_on t = (
      λ e. same_rest _ _ _ _ (both e),
      λ e. g.so_far.1 (word_here raw nodes i l g.word ∙ (λ k. here.0 t k ∷ e k) ∙ sym (word_here out others j m g.word_out)),
    )
