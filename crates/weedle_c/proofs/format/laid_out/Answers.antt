use Rattle.std.proofs.Common.{◌≡◌, ◌≤◌, ◌∙◌, ap, length, string_bytes, refl, sym, subst, arith}
use Rattle.std.proofs.lemmas.Slice.Eq.{bytes_eq-Decides}
use Rattle.weedle_c.proofs.FormatFacts.{says_the_same}
use Rattle.weedle_formatter.specs.Words.{SaysTheSameIn}
use Rattle.weedle_syntax.specs.Syntax.{rest_of}
use Rattle.weedle_c.proofs.format.laid_out.Goals as goal

pub returns : goal.returns
returns c =
    let others = c.in_ok-others.others.items in
    let text = string_bytes c.in_ok-text.text in
    let bytes : c.as_str-2.result.now ≡ text = c.as_str-2.ensures.value in
    let rest : c.rest_of.result ≡ rest_of others = c.rest_of.ensures ∙ ap rest_of c.deref.ensures.value in
    let behind = c.if-rest_of-len.false in
    let done : length text ≤ rest_of others = omega (arith, rest, behind, c.len.ensures) in
    let front = rw (bytes) at c.in_ok-others.ensures in
    let same = c.if-not-same_words.ensures.0 refl in
    says_the_same c.args.dialect c.requires.are c.requires.whole front done (rw (c.as_bytes.ensures.value, c.as_bytes-2.ensures.value, c.deref-2.ensures.value) at same)

pub returns-then-eq : goal.returns-then-eq
returns-then-eq c =
    let same : c.as_str.result.now ≡ c.args.raw.now = (bytes_eq-Decides _ _).0 (sym c.eq.ensures ∙ c.if-eq.true) in
    let is : c.args.raw.now ≡ string_bytes c.in_ok-text.text = sym same ∙ c.as_str.ensures.value in
    subst (SaysTheSameIn c.args.dialect c.args.raw.now) is (says_the_same c.args.dialect c.requires.are c.requires.whole c.requires.are c.requires.whole refl)
