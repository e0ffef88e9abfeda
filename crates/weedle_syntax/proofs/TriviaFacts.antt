-- Trivia that is whitespace alone, which is written at once.
use Rattle.std.proofs.Common.{◌≡◌, inl, inr, ℕ, ◌+◌, ◌≤◌, List, [], ◌∷◌, ◌++◌, length, drop, Some, refl, ◌∙◌, ap, option_map, arith, append_assoc}
use Rattle.weedle_grammar.specs.declared.class.Class.TheVariants.{Blank}
use Rattle.weedle_grammar.specs.Rows.{OneOf, Run, Seq, First, Many, take_one, run_length}
use Rattle.weedle_grammar.specs.written.Table.{webidl, row_of}
use Rattle.weedle_grammar.specs.written.Table.Trivia.{LINE_COMMENT, ONE_OF_BLANK, RUN_BLANK, BLANKS, BLOCK_COMMENT, PIECE, TRIVIA}
use Rattle.weedle_grammar.proofs.Takes.{takes}
use Rattle.weedle_grammar.proofs.Checked.{ranked}
use Rattle.weedle_rules.specs.Cells.{HasEnd}
use Rattle.weedle_rules.proofs.OutcomeFacts.{it_ends, it_fails}
use Rattle.weedle_rules.proofs.PartEnds.{along_start, along_step, along_ends, trying_start, first_tries_on, first_fits}
use Rattle.weedle_rules.proofs.RowEnds.{rule_ends, one_ends, run_ends, seq_ends, first_ends, many_goes, many_ends}
use Rattle.weedle_starts.proofs.ReadFacts.{ends_inside}
use Rattle.weedle_syntax.specs.declared.node.Node.{Node}
use Rattle.weedle_syntax.specs.Laid.{node, AreBlanksAlone, LaysNode}
use Rattle.weedle_syntax.specs.Parts.{AreInTurn, IsFirst, AreItems}
use Rattle.weedle_syntax.specs.Steps.{Steps, RowSteps, Spends}
use Rattle.weedle_syntax.specs.Syntax.{AreTrees, a_tree, no_trees}
use Rattle.weedle_syntax.proofs.CountFacts.{count_passed, count_tried, count_leaf, count_parts, count_part, count_parts_end, count_choices, count_choice, count_choice_fits, count_items, count_item, count_items_end}
use Rattle.weedle_syntax.proofs.LayFacts.{by_its_row}
use Rattle.weedle_syntax.proofs.TurnFacts.{is_node, one_node}

byte_row : row_of ONE_OF_BLANK ≡ OneOf Blank
byte_row = refl

run_row : row_of RUN_BLANK ≡ Run Blank
run_row = refl

abbrev blanks_parts : List ℕ
blanks_parts = ONE_OF_BLANK ∷ RUN_BLANK ∷ []

blanks_row : row_of BLANKS ≡ Seq blanks_parts
blanks_row = refl

abbrev piece_parts : List ℕ
piece_parts = LINE_COMMENT ∷ BLANKS ∷ BLOCK_COMMENT ∷ []

piece_row : row_of PIECE ≡ First piece_parts
piece_row = refl

trivia_row : row_of TRIVIA ≡ Many PIECE
trivia_row = refl

-- the first byte ends inside of the text
pub first_inside : (text : List ℕ) (p a : ℕ) → p ≤ length text → Some a ≡ option_map (λ k. p + k) (take_one Blank (drop p text)) → a ≤ length text
first_inside text p a within first =
    let h : HasEnd text ONE_OF_BLANK p (Some a) = rule_ends byte_row (one_ends webidl text Blank p (Some a) first) in
    ends_inside (it_ends h) within

-- and so do all
pub all_inside : (text : List ℕ) (a e : ℕ) → a ≤ length text → e ≡ a + run_length Blank (drop a text) → e ≤ length text
all_inside text a e within others =
    let h : HasEnd text RUN_BLANK a (Some e) = rule_ends run_row (run_ends webidl text Blank a (Some e) (ap Some others)) in
    ends_inside (it_ends h) within

module _ (text : List ℕ) (p a e : ℕ) (within : p ≤ length text) (b : AreBlanksAlone text p a e) where
  byte_end : HasEnd text ONE_OF_BLANK p (Some a)
  byte_end = rule_ends byte_row (one_ends webidl text Blank p (Some a) b.first)

  run_end : HasEnd text RUN_BLANK a (Some e)
  run_end = rule_ends run_row (run_ends webidl text Blank a (Some e) (ap Some b.others))

  blanks_end : HasEnd text BLANKS p (Some e)
  blanks_end =
      let start = along_start webidl text takes ranked BLANKS p blanks_parts blanks_row within in
      let one = along_step webidl text takes ranked BLANKS p ONE_OF_BLANK p a blanks_parts (RUN_BLANK ∷ []) start byte_end in
      let both = along_step webidl text takes ranked BLANKS p RUN_BLANK a e blanks_parts [] one run_end in
      rule_ends blanks_row (seq_ends webidl text blanks_parts p (Some e) (along_ends webidl text takes BLANKS p e blanks_parts both))

  piece_end : HasEnd text PIECE p (Some e)
  piece_end =
      let start = trying_start webidl text takes ranked PIECE p piece_parts piece_row in
      let on = first_tries_on webidl text takes PIECE 0 p LINE_COMMENT piece_parts (BLANKS ∷ BLOCK_COMMENT ∷ []) start b.no_comment in
      rule_ends piece_row (first_ends webidl text piece_parts p (Some e) (first_fits webidl text takes PIECE (0 + 1) p BLANKS e piece_parts (BLOCK_COMMENT ∷ []) on blanks_end))

  pub trivia_end : HasEnd text TRIVIA p (Some e)
  trivia_end = rule_ends trivia_row (many_goes webidl text PIECE p e (Some e) piece_end b.some (many_ends webidl text PIECE e b.no_piece))

  -- the trees of the two parts, of the whitespace, of the piece, and of all
  parts_trees : (d : ℕ) → AreTrees text (node ONE_OF_BLANK p a d ∷ node RUN_BLANK a e d ∷ []) (node ONE_OF_BLANK p a d ∷ node RUN_BLANK a e d ∷ [])
  parts_trees d =
      let run = a_tree (by_its_row text RUN_BLANK (d + 1) a e [] run_row refl) (no_trees refl) (no_trees refl) refl in
      a_tree (by_its_row text ONE_OF_BLANK (d + 1) p a [] byte_row refl) (no_trees refl) run refl

  blanks_trees : (d : ℕ) → AreTrees text (node BLANKS p e d ∷ []) (node BLANKS p e d ∷ node ONE_OF_BLANK p a (d + 1) ∷ node RUN_BLANK a e (d + 1) ∷ [])
  blanks_trees d =
      let inner : List Node = node ONE_OF_BLANK p a (d + 1) ∷ node RUN_BLANK a e (d + 1) ∷ [] in
      let turn : AreInTurn text blanks_parts (d + 1) p e inner = (is_node text ONE_OF_BLANK (d + 1) p a (it_ends byte_end), one_node text RUN_BLANK (d + 1) a e (it_ends run_end)) in
      a_tree (by_its_row text BLANKS (d + 1) p e inner blanks_row turn) (parts_trees (d + 1)) (no_trees refl) refl

  piece_trees : (d : ℕ) → AreTrees text (node PIECE p e d ∷ []) (node PIECE p e d ∷ node BLANKS p e (d + 1) ∷ node ONE_OF_BLANK p a (d + 1 + 1) ∷ node RUN_BLANK a e (d + 1 + 1) ∷ [])
  piece_trees d =
      let first : IsFirst text piece_parts (d + 1) p e (node BLANKS p e (d + 1) ∷ []) = inr (it_fails b.no_comment, inl (one_node text BLANKS (d + 1) p e (it_ends blanks_end))) in
      a_tree (by_its_row text PIECE (d + 1) p e (node BLANKS p e (d + 1) ∷ []) piece_row first) (blanks_trees (d + 1)) (no_trees refl) refl

  trivia_trees : (d : ℕ) → AreTrees text (node TRIVIA p e d ∷ []) (node TRIVIA p e d ∷ node PIECE p e (d + 1) ∷ node BLANKS p e (d + 1 + 1) ∷ node ONE_OF_BLANK p a (d + 1 + 1 + 1) ∷ node RUN_BLANK a e (d + 1 + 1 + 1) ∷ [])
  trivia_trees d =
      let items : AreItems text PIECE (d + 1) p e (node PIECE p e (d + 1) ∷ []) = (is_node text PIECE (d + 1) p e (it_ends piece_end), (refl, it_fails b.no_piece)) in
      a_tree (by_its_row text TRIVIA (d + 1) p e (node PIECE p e (d + 1) ∷ []) trivia_row items) (piece_trees (d + 1)) (no_trees refl) refl

  module _ (d : ℕ) (old one two three four new : List Node) where
    pub trivia_laid : one ≡ old ++ node TRIVIA p e d ∷ [] → two ≡ one ++ node PIECE p e (d + 1) ∷ [] → three ≡ two ++ node BLANKS p e (d + 1 + 1) ∷ []
        → four ≡ three ++ node ONE_OF_BLANK p a (d + 1 + 1 + 1) ∷ [] → new ≡ four ++ node RUN_BLANK a e (d + 1 + 1 + 1) ∷ [] → LaysNode text TRIVIA p d old new (Some e)
    trivia_laid h i j k l =
        let v = node TRIVIA p e d in
        let w = node PIECE p e (d + 1) in
        let x = node BLANKS p e (d + 1 + 1) in
        let y = node ONE_OF_BLANK p a (d + 1 + 1 + 1) in
        let z = node RUN_BLANK a e (d + 1 + 1 + 1) in
        let to_two : two ≡ old ++ v ∷ w ∷ [] = i ∙ ap (λ s. s ++ w ∷ []) h ∙ append_assoc old (v ∷ []) (w ∷ []) in
        let to_three : three ≡ old ++ v ∷ w ∷ x ∷ [] = j ∙ ap (λ s. s ++ x ∷ []) to_two ∙ append_assoc old (v ∷ w ∷ []) (x ∷ []) in
        let to_four : four ≡ old ++ v ∷ w ∷ x ∷ y ∷ [] = k ∙ ap (λ s. s ++ y ∷ []) to_three ∙ append_assoc old (v ∷ w ∷ x ∷ []) (y ∷ []) in
        let all : new ≡ old ++ v ∷ w ∷ x ∷ y ∷ z ∷ [] = l ∙ ap (λ s. s ++ z ∷ []) to_four ∙ append_assoc old (v ∷ w ∷ x ∷ y ∷ []) (z ∷ []) in
        (v ∷ w ∷ x ∷ y ∷ z ∷ [], all, trivia_trees d)

  pub trivia_steps : (was left : ℕ) → was ≡ 5 + left → Spends (Steps text TRIVIA p) was left
  trivia_steps was left is =
      let byte : Spends (Steps text ONE_OF_BLANK p) (2 + left) (1 + left) = count_tried text (omega arith) (count_leaf text ONE_OF_BLANK byte_row refl) in
      let run : Spends (Steps text RUN_BLANK a) (1 + left) left = count_tried text refl (count_leaf text RUN_BLANK run_row refl) in
      let parts : Spends (RowSteps text (row_of BLANKS) p) (2 + left) left = count_parts_end text (count_part text (count_part text (count_parts text BLANKS (2 + left) blanks_row) byte byte_end) run run_end) in
      let blanks : Spends (Steps text BLANKS p) (3 + left) left = count_tried text (omega arith) parts in
      let comment : Spends (Steps text LINE_COMMENT p) (3 + left) (3 + left) = count_passed text b.no_comment b.comment_here in
      let choice : Spends (RowSteps text (row_of PIECE) p) (3 + left) left = count_choice_fits text (count_choice text (count_choices text PIECE (3 + left) piece_row) comment b.no_comment) blanks blanks_end in
      let piece : Spends (Steps text PIECE p) (4 + left) left = count_tried text (omega arith) choice in
      let behind : Spends (Steps text PIECE e) left left = count_passed text b.no_piece b.piece_here in
      let items : Spends (RowSteps text (row_of TRIVIA) p) (4 + left) left = count_items_end text (count_item text (count_items text TRIVIA (4 + left) trivia_row) piece piece_end b.some) behind b.no_piece in
      count_tried text (omega (arith, is)) items
