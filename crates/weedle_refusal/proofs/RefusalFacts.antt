-- What is said of the rest is said of the text.
use Rattle.std.proofs.Common.{◌≡◌, ◌≤◌, ◌<◌, ◌+◌, ℕ, List, Option, IfSome, length, drop, refl, sym, subst, arith}
use Rattle.std.proofs.lemmas.List.{length-drop}
use Rattle.std.proofs.lemmas.Str.{IsCharBoundary-from_rest}
use Rattle.std.specs.Global.{Vec}
use Rattle.weedle_refusal.specs.Furthest.{IsFurthestIn}
use Rattle.weedle_refusal.specs.Hint.{IsHintIn}
use Rattle.weedle_refusal.specs.Refusal.{IsRefusalIn, IsRefusalBehindIn, IsSaidFromIn, RestBeginsIn}
use Rattle.weedle_refusal.specs.declared.refusal.Refusal.{Refusal}
use Rattle.weedle_refusal.specs.declared.expected.Expected.{Expected}
use Rattle.weedle_refusal.specs.declared.hint.Hint.{Hint}
use Rattle.weedle_rules.proofs.OutcomeFacts.{one_end}
use Rattle.weedle_syntax.specs.Dialects.{IsWholeIn}
use Rattle.weedle_syntax.specs.declared.dialect.Dialect.{Dialect}

module _ (dialect : Dialect) {raw : List ℕ} {start : ℕ} (left : RestBeginsIn dialect raw start) (unread : start < length raw) where
  not_whole : ¬ IsWholeIn dialect raw
  not_whole whole = let e : length raw ≡ start = one_end left whole in omega arith

  -- of what is said of the rest, the refusal
  pub refused : {refusal : Refusal} → IsSaidFromIn dialect raw start refusal → IsRefusalIn dialect raw refusal
  refused {refusal} said =
      let at : start ≡ refusal.start = sym said.begins in
      record {
        refused = not_whole;
        left = subst (RestBeginsIn dialect raw) at left;
        nonempty = omega (arith, said.begins, unread);
        furthest = said.furthest;
        found = subst (λ n. IsFurthestIn dialect (drop n raw) said.furthest refusal.expected.items) at said.found;
        place = omega (arith, said.place, said.begins);
        boundary = said.boundary;
        hint = subst (λ n. IfSome refusal.hint (IsHintIn dialect raw n refusal.place)) at said.hint;
      }

-- what is furthest from a place on, and a hint of it
pub said_from : (dialect : Dialect) {raw : List ℕ} {start furthest : ℕ} {words : Vec Expected} {hint : Option Hint} → start ≤ length raw
    → IsFurthestIn dialect (drop start raw) furthest words.items → IfSome hint (IsHintIn dialect raw start (start + furthest))
    → IsSaidFromIn dialect raw start (record { start = start; place = start + furthest; expected = words; hint = hint })
said_from dialect {raw} {start} {furthest} before found told = record {
  begins = refl;
  furthest = furthest;
  found = found;
  place = refl;
  boundary = IsCharBoundary-from_rest raw start furthest before found.boundary;
  hint = told;
}

-- what is said of the rest of the text from a place on
pub refused_behind : (dialect : Dialect) {raw : List ℕ} {from rest : ℕ} {refusal : Refusal} → RestBeginsIn dialect (drop from raw) rest
    → rest < length (drop from raw) → IsSaidFromIn dialect raw (from + rest) refusal → IsRefusalBehindIn dialect raw from refusal
refused_behind dialect {raw} {from} {rest} left unread said = record {
  refused = not_whole dialect left unread;
  rest = rest;
  left = left;
  nonempty = omega (arith, unread, length-drop from raw);
  said = said;
}
