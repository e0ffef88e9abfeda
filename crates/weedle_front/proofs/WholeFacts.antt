-- What the building of a list says of the whole text.
use Rattle.std.proofs.Common.{refl, ap, subst, arith}
use Rattle.std.proofs.lemmas.List.{length-drop, take_all}
use Rattle.std.specs.Borrow.{Bor}
use Rattle.std.specs.Global.{Vec}
use Rattle.std.specs.Prelude.{◌≡◌, ℕ, ◌-◌, ◌<◌, ◌≤◌, List, [], ◌∷◌, length, drop, Result, Ok, Err as Failed, IfOk, IfErr}
use Rattle.weedle_base.specs.Faults.{IsWithin}
use Rattle.weedle_base.specs.Reading.{Reading, Got}
use Rattle.weedle_base.specs.Rules.{HasRule}
use Rattle.weedle_base.specs.declared.fault.Err.{Err as Fault}
use Rattle.weedle_base.specs.declared.fault.Err.TheVariants.{Error as Stopped, Failure}
use Rattle.weedle_base.specs.declared.fault.Error.{Error}
use Rattle.weedle_build_base.specs.Whole.{IsBuilt}
use Rattle.weedle_grammar.proofs.Exists.{stays_inside}
use Rattle.weedle_grammar.proofs.Unique.{one_outcome}
use Rattle.weedle_grammar.specs.Meaning.{between}
use Rattle.weedle_grammar.specs.written.Table.{webidl, Reads}
use Rattle.weedle_grammar.specs.written.Table.Definitions.{DEFINITIONS}
use Rattle.weedle_grammar.specs.Trees.{Tree, Gives}
use Rattle.weedle_idl.specs.written.DefinitionTrees.{definitions_tree}
use Rattle.weedle_idl.specs.declared.definition.Definition.{Definition}
use Rattle.weedle_spell.specs.Laws.{SpellsValues, Spells}
use Rattle.weedle_spell.specs.Pieces.{IsInPieces}
use Rattle.weedle_spell_idl.specs.written.Definitions.{definitions_spelling}
use Rattle.weedle_front.specs.Whole.{IsWhole, IsLeft, ParseAnswers, WholeOf, SpellsList, HasTexts}

-- at the front of the text the rule of definitions reads this tree, up to some end, and the
-- remaining input is the text from there
pub record IsReadUpTo (raw : List ℕ) (tree : Tree) (rest : List ℕ) : Type 0 where
  pub end : ℕ
  pub reads : Reads raw DEFINITIONS 0 (Gives (tree ∷ []) end)
  pub rest_is : rest ≡ drop end raw

-- what is built is read
pub built : {raw rest : List ℕ} {tree : Tree} {visits : ℕ} → IsBuilt raw tree rest visits → IsReadUpTo raw tree rest
built h = record { end = h.end; reads = h.reads; rest_is = h.rest_is }

-- what descent reads is read, by the law of definitions
pub descended : {raw rest : List ℕ} {R : Reading (Vec Definition)} {list : Vec Definition}
    → HasRule R DEFINITIONS (λ v. definitions_tree v.items) → Got R raw list rest → IsReadUpTo raw (definitions_tree list.items) rest
descended law h = record { end = h.place; reads = law.gives _ _ _ h.gives; rest_is = h.rest_is }

module _ {raw rest : List ℕ} (list : Vec Definition) (h : IsReadUpTo raw (definitions_tree list.items) rest) where
  size : length rest ≡ length (drop h.end raw)
  size = ap length h.rest_is

  within : h.end ≤ length raw
  within = stays_inside webidl raw h.reads (omega arith)

  -- nothing is left: the text is read whole
  whole : length rest ≡ 0 → IsWhole raw list.items
  unfolding IsWhole
  whole e =
      let place : h.end ≡ length raw = omega (arith, e, size, length-drop h.end raw, within) in
      subst (λ (i : ℕ). Reads raw DEFINITIONS 0 (Gives (definitions_tree list.items ∷ []) i)) place h.reads

  same_end : {t u : Tree} {k l : ℕ} → Gives (t ∷ []) k ≡ Gives (u ∷ []) l → k ≡ l
  same_end e = cc

  not_whole : 0 < length rest → (definitions : List Definition) → ¬ IsWhole raw definitions
  unfolding IsWhole
  not_whole more definitions d =
      let place : h.end ≡ length raw = same_end (one_outcome h.reads d refl) in
      omega (arith, more, place, size, length-drop h.end raw)

  is_left : IsLeft raw rest
  unfolding IsLeft
  is_left = (_, h.end, h.reads, h.rest_is)

  -- what is read is the answer where nothing is left, and else what is left is
  pub read_answers : (r : Result (Vec Definition) (Fault (Error (Bor (List ℕ))))) → WholeOf list rest r → ParseAnswers raw r
  read_answers (Ok v) e = rw e.0 (whole e.1)
  read_answers (Failed (Stopped e)) left = record {
    refused = not_whole left.2;
    code = left.0;
    left = rw left.1 is_left;
    nonempty = rw left.1 left.2;
    within = omega (arith, ap length left.1, size, length-drop h.end raw);
  }
  read_answers (Failed (Failure e)) h = absurd h

whole_text : (raw : List ℕ) → between raw 0 (length raw) ≡ raw
whole_text raw = take_all (length raw - 0) raw (omega arith)

-- a text that is read whole is a rendering of what it is read as, by the law of definitions
module _ (law : SpellsValues DEFINITIONS definitions_tree definitions_spelling) (raw : List ℕ) where
  pub whole_spells : (r : Result (Vec Definition) (Fault (Error (Bor (List ℕ))))) → ParseAnswers raw r → IfOk r (λ v. SpellsList raw v.items)
  unfolding IsWhole SpellsList
  whole_spells (Ok v) d = subst (Spells definitions_spelling v.items) (whole_text raw) (law.spells v.items raw 0 (length raw) d)
  whole_spells (Failed e) d = tt

  pub whole_texts : (r : Result (Vec Definition) (Fault (Error (Bor (List ℕ))))) → ParseAnswers raw r → IfOk r (λ v. HasTexts raw v.items)
  unfolding IsWhole HasTexts
  whole_texts (Ok v) d = subst (IsInPieces (definitions_tree v.items)) (whole_text raw) (law.in_pieces v.items raw 0 (length raw) d)
  whole_texts (Failed e) d = tt

-- what is left of a text is no longer than the text, and neither is the text itself
pub answers_within : (raw : List ℕ) (r : Result (Vec Definition) (Fault (Error (Bor (List ℕ))))) → ParseAnswers raw r → IfErr r (IsWithin raw)
answers_within raw (Ok v) d = tt
answers_within raw (Failed (Stopped e)) d = d.within
answers_within raw (Failed (Failure e)) d = omega (arith, ap length d.input)
