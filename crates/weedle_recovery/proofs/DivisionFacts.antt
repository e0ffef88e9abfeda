-- Parts while a text is divided.
use Rattle.std.proofs.Common.{◌≡◌, inl, inr, ℕ, ◌<◌, ◌≤◌, true, false, List, [], ◌∷◌, ◌++◌, length, map, Option, Some, None, refl, sym, subst, ◌∙◌, ap, arith, append_assoc, append-nil}
use Rattle.std.proofs.lemmas.List.Elements.{All-nil, All-cons, All-append}
use Rattle.std.specs.Prelude.{IfSome, All}
use Rattle.weedle_grammar.proofs.Takes.{takes}
use Rattle.weedle_grammar.proofs.Checked.{rank, ranked}
use Rattle.weedle_grammar.proofs.Exists.{advances}
use Rattle.weedle_grammar.specs.Meaning.{first_here}
use Rattle.weedle_grammar.specs.Rows.{First}
use Rattle.weedle_grammar.specs.Trees.{Gives}
use Rattle.weedle_grammar.specs.written.Table.{webidl, row_of}
use Rattle.weedle_grammar.specs.written.Table.TodayDefinitions.{TODAY_DEFINITION, TODAY_PIECE}
use Rattle.weedle_grammar.specs.written.Table.TodayWords.{TODAY_DOC, TODAY_LAST_DOC, TODAY_TRIVIA}
use Rattle.weedle_rules.proofs.RowEnds.{FirstEnds, first_ends, rule_ends}
use Rattle.weedle_rules.specs.Cells.{HasEnd}
use Rattle.weedle_rules.specs.Outcomes.{EndsAt, FailsAt}
use Rattle.weedle_rules.proofs.OutcomeFacts.{it_ends, it_fails, not_both, one_end}
use Rattle.weedle_starts.proofs.ReadFacts.{ends_inside, ends_after, many_goes, many_stops}
use Rattle.weedle_syntax.specs.declared.node.Node.{Node}
use Rattle.weedle_syntax.specs.Laid.{LaysNode}
use Rattle.weedle_syntax.specs.Dialects.{start_of, IsWholeIn, definition_of, item_of}
use Rattle.weedle_syntax.specs.Syntax.{AreTrees, no_trees}
use Rattle.weedle_syntax.specs.declared.dialect.Dialect.{Dialect}
use Rattle.weedle_syntax.specs.declared.dialect.Dialect.TheVariants.{Weedle2, Today}
use Rattle.weedle_syntax.proofs.DescentFacts.{trees_append}
use Rattle.weedle_syntax.proofs.DialectFacts.{start_row}
use Rattle.weedle_recovery.specs.Counts.{ReadingView}
use Rattle.weedle_recovery.specs.declared.part.Part.{Part}
use Rattle.weedle_recovery.specs.Recovery.{IsPart, ArePartsIn, root_where, roots_of, IsDivided, IsPassed, unread, IsDefinitionIn}

cover_more : (dialect : Dialect) (text : List ℕ) (p e : ℕ) (parts : List Part) (part : Part) → ArePartsIn dialect text p e parts → part.start ≡ e → IsPart dialect text part
    → ArePartsIn dialect text p part.end (parts ++ part ∷ [])
cover_more dialect text p e [] part c s i = (s ∙ c, i, refl)
cover_more dialect text p e (x ∷ parts) part c s i = (c.0, c.1, cover_more dialect text x.end e parts part c.2 s i)

roots_more : (parts : List Part) (part : Part) → roots_of (parts ++ part ∷ []) ≡ roots_of parts ++ root_where part.is_read part
roots_more [] part = append-nil (root_where part.is_read part)
roots_more (x ∷ parts) part =
    ap (λ z. root_where x.is_read x ++ z) (roots_more parts part) ∙ sym (append_assoc (root_where x.is_read x) (roots_of parts) (root_where part.is_read part))

module _ {reading : ReadingView} {parts : List Part} {nodes : List Node} {definition place : ℕ} (d : IsDivided reading parts nodes definition place) where
  -- one more part that is read
  pub one_read : {rule end : ℕ} {more : List Part} {new : List Node} → HasEnd reading.text rule place (Some end) → LaysNode reading.text rule place 0 nodes new (Some end)
      → more ≡ parts ++ record { rule = rule; is_read = true; start = place; end = end; definition = definition } ∷ [] → IsDivided reading more new definition end
  one_read {rule} {end} {more} {new} h (behind, is, trees) w =
      let text = reading.text in
      let part : Part = record { rule = rule; is_read = true; start = place; end = end; definition = definition } in
      let after : place ≤ end = ends_after (it_ends h) in
      let ends : EndsAt text rule place end = it_ends h in
      let all : AreTrees text (roots_of parts ++ root_where true part) (nodes ++ behind) = trees_append text (roots_of parts) (root_where true part) nodes behind d.trees trees in
      record {
        within = ends_inside ends d.within;
        front = omega (arith, d.front, after);
        cover = subst (ArePartsIn reading.dialect text 0 end) (sym w)
            (cover_more reading.dialect text 0 place parts part d.cover refl (record { reads = λ y. ends; fails = λ n. cc; passed = λ n. cc; order = after; front = d.front }));
        trees = subst (λ z. AreTrees text (roots_of z) new) (sym w) (subst (AreTrees text (roots_of (parts ++ part ∷ []))) (sym is) (subst (λ z. AreTrees text z (nodes ++ behind)) (sym (roots_more parts part)) all));
      }

  -- one more part that isn't
  pub one_left : {rule end : ℕ} {more : List Part} {new : List Node} → FailsAt reading.text rule place → place ≤ end → end ≤ length reading.text
      → IsPassed reading.dialect reading.text (unread rule place end definition)
      → more ≡ parts ++ record { rule = rule; is_read = false; start = place; end = end; definition = definition } ∷ [] → new ≡ nodes → IsDivided reading more new definition end
  one_left {rule} {end} {more} {new} f o l passed w same =
      let text = reading.text in
      let part : Part = record { rule = rule; is_read = false; start = place; end = end; definition = definition } in
      let roots : roots_of (parts ++ part ∷ []) ≡ roots_of parts = roots_more parts part ∙ append-nil (roots_of parts) in
      record {
        within = l;
        front = omega (arith, d.front, o);
        cover = subst (ArePartsIn reading.dialect text 0 end) (sym w)
            (cover_more reading.dialect text 0 place parts part d.cover refl (record { reads = λ y. cc; fails = λ n. f; passed = λ n. passed; order = o; front = d.front }));
        trees = subst (λ z. AreTrees text (roots_of z) new) (sym w) (subst (AreTrees text (roots_of (parts ++ part ∷ []))) (sym same) (subst (λ z. AreTrees text z nodes) (sym roots) d.trees));
      }

-- before anything is read
pub at_front : (reading : ReadingView) (parts : List Part) (nodes : List Node) → parts ≡ [] → nodes ≡ [] → IsDivided reading parts nodes 0 0
at_front reading parts nodes a b = record {
  within = omega arith;
  front = omega arith;
  cover = subst (ArePartsIn reading.dialect reading.text 0 0) (sym a) refl;
  trees = subst (λ z. AreTrees reading.text (roots_of z) nodes) (sym a) (no_trees b);
}

-- the same, where a definition begins
pub begin_here : {reading : ReadingView} {parts : List Part} {nodes : List Node} {definition place : ℕ} → IsDivided reading parts nodes definition place
    → IsDivided reading parts nodes place place
begin_here d = record { within = d.within; front = omega arith; cover = d.cover; trees = d.trees }

module _ {text : List ℕ} {r p : ℕ} where
  pub lands_after : (o : Option ℕ) → HasEnd text r p o → IfSome o (λ e. p ≤ e)
  lands_after None h = tt
  lands_after (Some e) h = ends_after (it_ends h)

  pub lands_within : (o : Option ℕ) → HasEnd text r p o → p ≤ length text → IfSome o (λ e. e ≤ length text)
  lands_within None h l = tt
  lands_within (Some e) h l = ends_inside (it_ends h) l

-- a rule has one end
pub same_end : {text : List ℕ} {r p e : ℕ} (o : Option ℕ) → HasEnd text r p o → EndsAt text r p e → o ≡ Some e
same_end None h ends = absurd (not_both (it_fails h) ends)
same_end (Some q) h ends = ap Some (one_end ends (it_ends h))

-- what the first alternative of a choice reads, the choice reads
first_is : (text : List ℕ) (r x p e : ℕ) (xs : List ℕ) → row_of r ≡ First (x ∷ xs) → EndsAt text x p e → EndsAt text r p e
first_is text r x p e xs is (ts, d) =
    let choice : FirstEnds webidl text (x ∷ xs) 0 p (Some e) = record { outcome = Gives (map (Rattle.weedle_grammar.specs.Trees.Tree.Alt 0) ts) e; reads = first_here d refl; is = refl } in
    it_ends (rule_ends is (first_ends webidl text (x ∷ xs) p (Some e) choice))

-- a definition is an item of a whole text
pub reads_item : (dialect : Dialect) (text : List ℕ) (p e : ℕ) → EndsAt text (definition_of dialect) p e → EndsAt text (item_of dialect) p e
reads_item Weedle2 text p e ends = ends
reads_item Today text p e ends = first_is text TODAY_PIECE TODAY_DEFINITION p e (TODAY_DOC ∷ TODAY_LAST_DOC ∷ TODAY_TRIVIA ∷ []) refl ends

-- an item takes a byte
pub item_takes : (dialect : Dialect) (text : List ℕ) (p q : ℕ) → EndsAt text (item_of dialect) p q → p < q
item_takes Weedle2 text p q h = advances webidl text rank takes ranked h.1 refl
item_takes Today text p q h = advances webidl text rank takes ranked h.1 refl

module _ (dialect : Dialect) (text : List ℕ) (p : ℕ) (inside : p < length text) (ends : EndsAt text (start_of dialect) p (length text)) where
  -- where the rest of a text is read whole, an item is read
  pub item_reads : FailsAt text (item_of dialect) p → ⊥
  item_reads fails = let e : length text ≡ p = many_stops text (start_of dialect) p (length text) ends (start_row dialect) fails in omega arith

  -- so it isn't where no definition is, if nothing else is an item
  pub nothing_left : item_of dialect ≡ definition_of dialect → FailsAt text (definition_of dialect) p → ⊥
  nothing_left same fails = item_reads (subst (λ r. FailsAt text r p) (sym same) fails)

-- of a text that the dialect's rules read whole: from a place on they read items up to the end, and all parts before are definitions
pub record IsOnTheWay (dialect : Dialect) (text : List ℕ) (parts : List Part) (place : ℕ) : Type 0 where
  pub ends : EndsAt text (start_of dialect) place (length text)
  pub definitions : All (IsDefinitionIn dialect) parts

-- so it is, where the text is read whole
abbrev pub WholeSoFar : Dialect → List ℕ → List Part → ℕ → Type 0
WholeSoFar dialect text parts place = IsWholeIn dialect text → IsOnTheWay dialect text parts place

-- a definition that is read, by its numbers, and an item
is_definition : (dialect : Dialect) (r p e definition : ℕ) → r ≡ definition_of dialect
    → IsDefinitionIn dialect (record { rule = r; is_read = true; start = p; end = e; definition = definition })
is_definition Weedle2 r p e definition is = (refl, is)
is_definition Today r p e definition is = (refl, inl is)

is_item : (dialect : Dialect) (p e definition : ℕ) → IsDefinitionIn dialect (record { rule = item_of dialect; is_read = true; start = p; end = e; definition = definition })
is_item Weedle2 p e definition = (refl, refl)
is_item Today p e definition = (refl, inr refl)

-- definitions and one more
all_more : (dialect : Dialect) (parts : List Part) (part : Part) → All (IsDefinitionIn dialect) parts → IsDefinitionIn dialect part → All (IsDefinitionIn dialect) (parts ++ part ∷ [])
all_more dialect parts part a d = All-append (IsDefinitionIn dialect) parts (part ∷ []) a (All-cons (IsDefinitionIn dialect) part [] d (All-nil (IsDefinitionIn dialect)))

module _ (dialect : Dialect) {text : List ℕ} {parts : List Part} {place : ℕ} where
  pub whole_front : parts ≡ [] → place ≡ 0 → WholeSoFar dialect text parts place
  whole_front none front whole = record {
    ends = subst (λ z. EndsAt text (start_of dialect) z (length text)) (sym front) whole;
    definitions = subst (All (IsDefinitionIn dialect)) (sym none) (All-nil (IsDefinitionIn dialect));
  }

  -- behind an item that is read as a part
  goes_on : {end : ℕ} {more : List Part} (part : Part) → WholeSoFar dialect text parts place → EndsAt text (item_of dialect) place end → IsDefinitionIn dialect part → more ≡ parts ++ part ∷ []
      → WholeSoFar dialect text more end
  goes_on {end} part w item is added whole =
      let so_far = w whole in
      record {
        ends = (many_goes text (start_of dialect) place (length text) so_far.ends (start_row dialect) item).1;
        definitions = subst (All (IsDefinitionIn dialect)) (sym added) (all_more dialect parts part so_far.definitions is);
      }

  -- behind a definition
  pub whole_more : {end : ℕ} {more : List Part} (rule definition : ℕ) → rule ≡ definition_of dialect → WholeSoFar dialect text parts place → EndsAt text rule place end
      → more ≡ parts ++ record { rule = rule; is_read = true; start = place; end = end; definition = definition } ∷ [] → WholeSoFar dialect text more end
  whole_more {end} rule definition is w d added =
      goes_on (record { rule = rule; is_read = true; start = place; end = end; definition = definition }) w
      (reads_item dialect text place end (subst (λ r. EndsAt text r place end) is d)) (is_definition dialect rule place end definition is) added

  -- where no definition is read: behind a further item, or the text isn't read whole
  pub whole_past : {end : ℕ} {mid more : List Part} (definition : ℕ) → WholeSoFar dialect text parts place → mid ≡ parts
      → (EndsAt text (start_of dialect) place (length text) → EndsAt text (item_of dialect) place end × (more ≡ mid ++ record { rule = item_of dialect; is_read = true; start = place; end = end; definition = definition } ∷ []))
      → WholeSoFar dialect text more end
  whole_past {end} definition w same past whole =
      let item : Part = record { rule = item_of dialect; is_read = true; start = place; end = end; definition = definition } in
      let there = past (w whole).ends in
      goes_on item w there.0 (is_item dialect place end definition) (there.1 ∙ ap (λ z. z ++ item ∷ []) same) whole

  pub whole_end : WholeSoFar dialect text parts place → IsWholeIn dialect text → All (IsDefinitionIn dialect) parts
  whole_end w whole = (w whole).definitions
