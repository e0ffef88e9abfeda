-- What is said of the rest is said of the text.
use Rattle.std.proofs.Common.{◌≡◌, ◌≤◌, ◌+◌, ◌-◌, ◌∙◌, ℕ, List, Option, IfSome, length, drop, ap, refl, subst, arith}
use Rattle.std.proofs.lemmas.List.{length-drop}
use Rattle.std.proofs.lemmas.Str.{IsCharBoundary-from_rest}
use Rattle.std.specs.Global.{Vec}
use Rattle.weedle_front.specs.Refusal.{IsRefusal, IsRest}
use Rattle.weedle_front.specs.Whole.{IsLeft}
use Rattle.weedle_refusal.specs.Furthest.{IsFurthest}
use Rattle.weedle_refusal.specs.Hint.{IsHint}
use Rattle.weedle_refusal.specs.declared.expected.Expected.{Expected}
use Rattle.weedle_refusal.specs.declared.hint.Hint.{Hint}

module _ {raw rest : List ℕ} (h : IsRest raw rest) where
  -- the rest follows what is read
  rest_is : rest ≡ drop (length raw - length rest) raw
  unfolding IsLeft
  rest_is =
      let is = h.left.3 in
      let short : length rest ≡ length raw - h.left.1 = ap length is ∙ length-drop h.left.1 raw in
      let end : h.left.1 ≡ length raw - length rest = omega (arith, short, h.nonempty) in
      is ∙ ap (λ n. drop n raw) end

  -- of what is furthest in the rest, and a hint of it, the refusal
  pub refused : {furthest : ℕ} {words : Vec Expected} {hint : Option Hint} → IsFurthest rest furthest words.items
      → IfSome hint (IsHint raw (length raw - length rest) ((length raw - length rest) + furthest))
      → IsRefusal raw (record { start = length raw - length rest; place = (length raw - length rest) + furthest; expected = words; hint = hint })
  refused {furthest} {words} {hint} found told =
      let start = length raw - length rest in
      let F : List ℕ → Type 0 = λ text. IsFurthest text furthest words.items in
      let L : List ℕ → Type 0 = λ text. IsLeft raw text in
      let before : start ≤ length raw = omega arith in
      let here : IsFurthest (drop start raw) furthest words.items = subst F rest_is found in
      record {
        refused = h.refused;
        left = subst L rest_is h.left;
        nonempty = omega (arith, h.nonempty, h.within);
        furthest = furthest;
        found = here;
        place = refl;
        boundary = IsCharBoundary-from_rest raw start furthest before here.boundary;
        hint = told;
      }
