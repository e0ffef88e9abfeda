-- The list of members among the parts of a definition.
use Rattle.std.proofs.Common.{◌≡◌, ◌⊎◌, inl, inr, ℕ, Bool, List, [], ◌∷◌, Option, Some, None, true, false, refl, subst, sym, ◌∙◌, ap, eqb-true}
use Rattle.std.specs.Prelude.{◌==◌, if◌then◌else◌}
use Rattle.weedle_grammar.specs.Rows.{Seq, Many}
use Rattle.weedle_grammar.specs.Trees.{Tree}
use Rattle.weedle_grammar.specs.Meaning.{Piece, piece, with_piece, last_end, together, ReadsSeq}
use Rattle.weedle_grammar.specs.written.Table.{webidl, row_of}
use Rattle.weedle_grammar.specs.written.Table.Symbols.{OPEN_BRACE, CLOSE_BRACE}
use Rattle.weedle_grammar.specs.written.Table.InterfaceMembers.{INTERFACE_MEMBER, INTERFACE_MEMBERS, BRACED_INTERFACE_MEMBERS}
use Rattle.weedle_grammar.specs.written.Table.OtherMembers.{MIXIN_MEMBER, MIXIN_MEMBERS, BRACED_MIXIN_MEMBERS, NAMESPACE_MEMBER, NAMESPACE_MEMBERS, BRACED_NAMESPACE_MEMBERS, DICTIONARY_MEMBER, DICTIONARY_MEMBERS, BRACED_DICTIONARY_MEMBERS}
use Rattle.weedle_grammar.specs.written.Table.TodayWords.{TODAY_DOCS}
use Rattle.weedle_grammar.specs.written.Table.TodayMembers.{TODAY_INTERFACE_MEMBER, TODAY_INTERFACE_MEMBERS, BRACED_TODAY_INTERFACE_MEMBERS, TODAY_MIXIN_MEMBER, TODAY_MIXIN_MEMBERS, BRACED_TODAY_MIXIN_MEMBERS, TODAY_NAMESPACE_MEMBER, TODAY_NAMESPACE_MEMBERS, BRACED_TODAY_NAMESPACE_MEMBERS, TODAY_DICTIONARY_MEMBER, TODAY_DICTIONARY_MEMBERS, BRACED_TODAY_DICTIONARY_MEMBERS}
use Rattle.weedle_grammar.proofs.Inversion.{of_parts, of_seq}
use Rattle.weedle_rules.specs.Outcomes.{EndsAt}
use Rattle.weedle_rules.proofs.OutcomeFacts.{has_end}
use Rattle.weedle_rules.proofs.RowEnds.{row_ends, raw_end}
use Rattle.weedle_syntax.specs.declared.dialect.Dialect.{Dialect}
use Rattle.weedle_syntax.specs.declared.dialect.Dialect.TheVariants.{Weedle2, Today}
use Rattle.weedle_places.specs.Members.{member_of, today_member_of, member_in}

-- a list of members behind an open brace, and what is behind the list
pub record IsBraced (r y : ℕ) : Type 0 where
  pub list : ℕ
  pub behind : List ℕ
  pub is_list : row_of list ≡ Many y
  pub is : row_of r ≡ Seq (OPEN_BRACE ∷ list ∷ behind)

as_list : (r b l x y : ℕ) (behind : List ℕ) → r ≡ b → x ≡ y → row_of b ≡ Seq (OPEN_BRACE ∷ l ∷ behind) → row_of l ≡ Many x → IsBraced r y
as_list r b l x y behind e k is is_list = record { list = l; behind = behind; is_list = is_list ∙ ap Many k; is = ap row_of e ∙ is }

-- the first of two, or the second
either : (b : Bool) (x y : ℕ) (rest : Option ℕ) → (if b then Some x else rest) ≡ Some y → ((b ≡ true) × (x ≡ y)) ⊎ (rest ≡ Some y)
either true x y rest h = inl (refl, cc)
either false x y rest h = inr h

-- each rule of weedle2's for which there is a member is such a list
weedle2_braced : (r y : ℕ) → member_of r ≡ Some y → IsBraced r y
weedle2_braced r y h = elim (either (r == BRACED_INTERFACE_MEMBERS) _ y _ h) [
  | inl e ↦ as_list r BRACED_INTERFACE_MEMBERS INTERFACE_MEMBERS INTERFACE_MEMBER y (CLOSE_BRACE ∷ []) (eqb-true _ _ e.0) e.1 refl refl
  | inr k ↦ elim (either (r == BRACED_MIXIN_MEMBERS) _ y _ k) [
    | inl e ↦ as_list r BRACED_MIXIN_MEMBERS MIXIN_MEMBERS MIXIN_MEMBER y (CLOSE_BRACE ∷ []) (eqb-true _ _ e.0) e.1 refl refl
    | inr l ↦ elim (either (r == BRACED_NAMESPACE_MEMBERS) _ y _ l) [
      | inl e ↦ as_list r BRACED_NAMESPACE_MEMBERS NAMESPACE_MEMBERS NAMESPACE_MEMBER y (CLOSE_BRACE ∷ []) (eqb-true _ _ e.0) e.1 refl refl
      | inr m ↦ elim (either (r == BRACED_DICTIONARY_MEMBERS) _ y _ m) [
        | inl e ↦ as_list r BRACED_DICTIONARY_MEMBERS DICTIONARY_MEMBERS DICTIONARY_MEMBER y (CLOSE_BRACE ∷ []) (eqb-true _ _ e.0) e.1 refl refl
        | inr n ↦ absurd (let z : ⊥ = cc in z)
      ]
    ]
  ]
]

-- and each of today's, with docstrings behind the members
today_braced : (r y : ℕ) → today_member_of r ≡ Some y → IsBraced r y
today_braced r y h = elim (either (r == BRACED_TODAY_INTERFACE_MEMBERS) _ y _ h) [
  | inl e ↦ as_list r BRACED_TODAY_INTERFACE_MEMBERS TODAY_INTERFACE_MEMBERS TODAY_INTERFACE_MEMBER y (TODAY_DOCS ∷ CLOSE_BRACE ∷ []) (eqb-true _ _ e.0) e.1 refl refl
  | inr k ↦ elim (either (r == BRACED_TODAY_MIXIN_MEMBERS) _ y _ k) [
    | inl e ↦ as_list r BRACED_TODAY_MIXIN_MEMBERS TODAY_MIXIN_MEMBERS TODAY_MIXIN_MEMBER y (TODAY_DOCS ∷ CLOSE_BRACE ∷ []) (eqb-true _ _ e.0) e.1 refl refl
    | inr l ↦ elim (either (r == BRACED_TODAY_NAMESPACE_MEMBERS) _ y _ l) [
      | inl e ↦ as_list r BRACED_TODAY_NAMESPACE_MEMBERS TODAY_NAMESPACE_MEMBERS TODAY_NAMESPACE_MEMBER y (TODAY_DOCS ∷ CLOSE_BRACE ∷ []) (eqb-true _ _ e.0) e.1 refl refl
      | inr m ↦ elim (either (r == BRACED_TODAY_DICTIONARY_MEMBERS) _ y _ m) [
        | inl e ↦ as_list r BRACED_TODAY_DICTIONARY_MEMBERS TODAY_DICTIONARY_MEMBERS TODAY_DICTIONARY_MEMBER y (TODAY_DOCS ∷ CLOSE_BRACE ∷ []) (eqb-true _ _ e.0) e.1 refl refl
        | inr n ↦ absurd (let z : ⊥ = cc in z)
      ]
    ]
  ]
]

pub braced : (dialect : Dialect) (r y : ℕ) → member_in dialect r ≡ Some y → IsBraced r y
braced Weedle2 r y h = weedle2_braced r y h
braced Today r y h = today_braced r y h

-- the parts are read one after another up to a place
abbrev pub AreReadTo : List ℕ → List ℕ → ℕ → ℕ → Type 0
AreReadTo text rs p e = (pieces : List Piece) × ReadsSeq webidl text rs p (Some pieces) × (e ≡ last_end p pieces)

left_to : (text rs : List ℕ) (q p : ℕ) (ts : List Tree) (pieces : List Piece) (v : Option (List Piece)) → ReadsSeq webidl text rs q v → Some pieces ≡ with_piece (piece ts q) v → AreReadTo text rs q (last_end p pieces)
left_to text rs q p ts pieces None m e = cc
left_to text rs q p ts pieces (Some qs) m e =
    let same : pieces ≡ piece ts q ∷ qs = cc in
    (qs, m, ap (last_end p) same)

pub first_to : (text : List ℕ) (r : ℕ) (rs : List ℕ) (p e : ℕ) → AreReadTo text (r ∷ rs) p e → (q : ℕ) × EndsAt text r p q × AreReadTo text rs q e
first_to text r rs p e (pieces, d, z) = elim (of_parts d) [
  | inl k ↦ (let e = k.1 in let n : ⊥ = cc in absurd n)
  | inr (ts, q, v, given, more, h) ↦ (q, (ts, given), subst (AreReadTo text rs q) (sym z) (left_to text rs q p ts pieces v more h))
]

-- the parts of a rule that is a sequence are read up to its end
pub read_to : (text : List ℕ) (r p e : ℕ) (parts : List ℕ) → row_of r ≡ Seq parts → EndsAt text r p e → AreReadTo text parts p e
read_to text r p e parts is d =
    let s = row_ends is (has_end d) in
    let o = of_seq s.reads in
    to_end text p e parts o.0 o.1 (s.is ∙ ap raw_end o.2)
  where
    to_end : (text : List ℕ) (p e : ℕ) (parts : List ℕ) (o : Option (List Piece)) → ReadsSeq webidl text parts p o → Some e ≡ raw_end (together p o) → AreReadTo text parts p e
    to_end text p e parts None d h = cc
    to_end text p e parts (Some ps) d h = (ps, d, cc)
