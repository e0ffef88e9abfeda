-- From nodes that wait on a pile to trees.
use Rattle.std.proofs.Common.{◌≡◌, ℕ, zero, suc, ◌+◌, ◌≤◌, List, [], ◌∷◌, ◌++◌, length, refl, sym, subst, ◌∙◌, ap, arith, append_assoc, length-append}
use Rattle.weedle_syntax.specs.declared.node.Node.{Node}
use Rattle.weedle_syntax.specs.Parts.{HasParts}
use Rattle.weedle_syntax.specs.Syntax.{root_to, AreTrees, no_trees, a_tree}

-- in preorder, what these nodes are and read: the first of them, then what it reads directly before the others
abbrev pub AreNodes : List ℕ → List Node → List Node → Type 0
AreNodes text waiting [] = waiting ≡ []
AreNodes text waiting (n ∷ ns) =
    (inner others : List Node) × (waiting ≡ n ∷ others) × HasParts text n inner × AreNodes text (inner ++ others) ns

-- all nodes of the definitions up to a place
abbrev pub AreAll : List ℕ → ℕ → List Node → Type 0
AreAll text end ns = AreNodes text (root_to end ∷ []) ns

-- nodes of some, and then of others
pub record AreSplit (text : List ℕ) (xs ys ns : List Node) : Type 0 where
  pub first : List Node
  pub second : List Node
  pub are_first : AreNodes text xs first
  pub are_second : AreNodes text ys second
  pub is : ns ≡ first ++ second

same_first : (x n : Node) (xs ns : List Node) → x ∷ xs ≡ n ∷ ns → x ≡ n
same_first x n xs ns h = cc

same_rest : (x n : Node) (xs ns : List Node) → x ∷ xs ≡ n ∷ ns → xs ≡ ns
same_rest x n xs ns h = cc

pub split : (text : List ℕ) (ns xs ys : List Node) → AreNodes text (xs ++ ys) ns → AreSplit text xs ys ns
split text ns [] ys a = record { first = []; second = ns; are_first = refl; are_second = a; is = refl }
split text [] (x ∷ xs) ys a = cc
split text (n ∷ ns) (x ∷ xs) ys (inner, others, is, parts, a) =
    let rest : others ≡ xs ++ ys = sym (same_rest x n (xs ++ ys) others is) in
    let s = split text ns (inner ++ xs) ys (subst (λ w. AreNodes text w ns) (ap (λ w. inner ++ w) rest ∙ sym (append_assoc inner xs ys)) a) in
    record {
      first = n ∷ s.first;
      second = s.second;
      are_first = (inner, xs, ap (λ z. z ∷ xs) (same_first x n (xs ++ ys) others is), parts, s.are_first);
      are_second = s.are_second;
      is = ap (λ z. n ∷ z) s.is;
    }

grow : (k : ℕ) (text : List ℕ) (ns w : List Node) → length ns ≤ k → AreNodes text w ns → AreTrees text w ns
grow k text [] w l a = subst (λ z. AreTrees text z []) (sym a) (no_trees refl)
grow zero text (n ∷ ns) w l a = absurd (omega arith)
grow (suc k) text (n ∷ ns) w l (inner, others, is, parts, a) =
    let s = split text ns inner others a in
    let many : length ns ≡ length s.first + length s.second = ap length s.is ∙ length-append s.first s.second in
    subst (λ z. AreTrees text z (n ∷ ns)) (sym is) (a_tree parts (grow k text s.first inner (omega arith) s.are_first) (grow k text s.second others (omega arith) s.are_second) (ap (λ z. n ∷ z) s.is))

pub trees_of : (text : List ℕ) (ns w : List Node) → AreNodes text w ns → AreTrees text w ns
trees_of text ns w a = grow (length ns) text ns w (omega arith) a

-- and back
nodes_append : (text : List ℕ) (xs ys first second : List Node) → AreNodes text xs first → AreNodes text ys second → AreNodes text (xs ++ ys) (first ++ second)
nodes_append text xs ys [] second a b = subst (λ z. AreNodes text (z ++ ys) second) (sym a) b
nodes_append text xs ys (n ∷ first) second (inner, others, is, parts, a) b = (
  inner,
  others ++ ys,
  ap (λ z. z ++ ys) is,
  parts,
  subst (λ z. AreNodes text z (first ++ second)) (append_assoc inner others ys) (nodes_append text (inner ++ others) ys first second a b),
)

pub nodes_of : (text : List ℕ) (w ns : List Node) → AreTrees text w ns → AreNodes text w ns
nodes_of text [] ns (no_trees e) = subst (AreNodes text []) (sym e) refl
nodes_of text (n ∷ others) ns (a_tree {inner = inner} {below = below} {behind = behind} p a b e) =
    subst (AreNodes text (n ∷ others)) (sym e) (inner, others, refl, p, nodes_append text inner others below behind (nodes_of text inner below a) (nodes_of text others behind b))
