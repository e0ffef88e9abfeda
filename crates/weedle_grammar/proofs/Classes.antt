-- Classes and bytes past ASCII.
use Rattle.std.proofs.Common.{◌≡◌, ℕ, ◌<◌, Bool, true, false, arith}
use Rattle.std.specs.Prelude.{◌==◌, ◌||◌, not}
use Rattle.std.proofs.lemmas.Bool.Decides.{nat_tests}
use Rattle.weedle_grammar.specs.Rows.{is_in, is_blank, is_alnum, is_from_to}
use Rattle.weedle_grammar.specs.declared.class.Class.{Class}
use Rattle.weedle_grammar.specs.declared.class.Class.TheVariants.{Blank, Digit, OneToNine, Octal, Hex, Alnum, Name, Slash, XLetter, ELetter, Sign, NotQuote, Letter, NotLineFeed, Any}

-- the class has ASCII bytes alone; any other has all bytes past ASCII
abbrev pub is_ascii_class : Class → Bool
is_ascii_class NotQuote = false
is_ascii_class NotLineFeed = false
is_ascii_class Any = false
is_ascii_class _ = true

low_Blank : (b : ℕ) → is_blank b ≡ true → b < 128
low_Blank b h = grind (arith, nat_tests)

low_Digit : (b : ℕ) → is_from_to 48 57 b ≡ true → b < 128
low_Digit b h = grind (arith, nat_tests)

low_OneToNine : (b : ℕ) → is_from_to 49 57 b ≡ true → b < 128
low_OneToNine b h = grind (arith, nat_tests)

low_Octal : (b : ℕ) → is_from_to 48 55 b ≡ true → b < 128
low_Octal b h = grind (arith, nat_tests)

low_Hex : (b : ℕ) → is_from_to 48 57 b || is_from_to 97 102 b || is_from_to 65 70 b ≡ true → b < 128
low_Hex b h = grind (arith, nat_tests)

low_Alnum : (b : ℕ) → is_alnum b ≡ true → b < 128
low_Alnum b h = grind (arith, nat_tests)

low_Name : (b : ℕ) → is_alnum b || b == 95 || b == 45 ≡ true → b < 128
low_Name b h = grind (arith, nat_tests)

low_Slash : (b : ℕ) → b == 47 ≡ true → b < 128
low_Slash b h = grind (arith, nat_tests)

low_XLetter : (b : ℕ) → b == 120 || b == 88 ≡ true → b < 128
low_XLetter b h = grind (arith, nat_tests)

low_ELetter : (b : ℕ) → b == 101 || b == 69 ≡ true → b < 128
low_ELetter b h = grind (arith, nat_tests)

low_Sign : (b : ℕ) → b == 43 || b == 45 ≡ true → b < 128
low_Sign b h = grind (arith, nat_tests)

low_Letter : (b : ℕ) → is_from_to 65 90 b || is_from_to 97 122 b ≡ true → b < 128
low_Letter b h = grind (arith, nat_tests)

low_NotLineFeed : (b : ℕ) → not (b == 10) ≡ false → b < 128
low_NotLineFeed b h = grind (arith, nat_tests)

low_NotQuote : (b : ℕ) → not (b == 34) ≡ false → b < 128
low_NotQuote b h = grind (arith, nat_tests)

-- a byte in an ASCII class is below 128
pub in_ascii : (c : Class) (b : ℕ) → is_ascii_class c ≡ true → is_in c b ≡ true → b < 128
in_ascii Blank b a h = low_Blank b h
in_ascii Digit b a h = low_Digit b h
in_ascii OneToNine b a h = low_OneToNine b h
in_ascii Octal b a h = low_Octal b h
in_ascii Hex b a h = low_Hex b h
in_ascii Alnum b a h = low_Alnum b h
in_ascii Name b a h = low_Name b h
in_ascii Slash b a h = low_Slash b h
in_ascii XLetter b a h = low_XLetter b h
in_ascii ELetter b a h = low_ELetter b h
in_ascii Sign b a h = low_Sign b h
in_ascii NotQuote b a h = cc
in_ascii Letter b a h = low_Letter b h
in_ascii NotLineFeed b a h = cc
in_ascii Any b a h = cc

-- a byte outside any other class is below 128
pub out_ascii : (c : Class) (b : ℕ) → is_ascii_class c ≡ false → is_in c b ≡ false → b < 128
out_ascii Blank b a h = cc
out_ascii Digit b a h = cc
out_ascii OneToNine b a h = cc
out_ascii Octal b a h = cc
out_ascii Hex b a h = cc
out_ascii Alnum b a h = cc
out_ascii Name b a h = cc
out_ascii Slash b a h = cc
out_ascii XLetter b a h = cc
out_ascii ELetter b a h = cc
out_ascii Sign b a h = cc
out_ascii NotQuote b a h = low_NotQuote b h
out_ascii Letter b a h = cc
out_ascii NotLineFeed b a h = low_NotLineFeed b h
out_ascii Any b a h = cc
