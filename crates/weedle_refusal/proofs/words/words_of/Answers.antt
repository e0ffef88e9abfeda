use Rattle.std.proofs.Common.{◌≡◌, ◌∙◌, ◌<◌, ◌+◌, List, [], ◌∷◌, ◌++◌, length, map, take, sym, ap, subst, arith}
use Rattle.std.specs.List.{filter_map}
use Rattle.std.proofs.Math.Seq.{take-length}
use Rattle.std.proofs.lemmas.List.{take_more}
use Rattle.std.proofs.lemmas.List.Elements.{filter_map-append}
use Rattle.weedle_refusal.proofs.WordFacts.{are_words}
use Rattle.weedle_refusal.specs.Words.{IsEachOnce, Word, none, word_for, word_view}
use Rattle.weedle_refusal.proofs.words.words_of.Goals as goal

pub loop-rule-init : goal.loop-rule-init
loop-rule-init c = rw c.new-words.ensures.items none

pub loop-rule-preserved : goal.loop-rule-preserved
loop-rule-preserved c =
    let rules = c.args.rules.now in
    let i = c.loop-rule.rule-index in
    let r = c.rule-item.result in
    let f = word_for c.args.dialect rules in
    let new : List Word = map word_view c.add_word.new.words.items in
    let within : i < length rules = omega arith in
    let front : take (i + 1) rules ≡ take i rules ++ r ∷ [] = take_more rules i r within ∙ ap (λ x. take i rules ++ x ∷ []) (sym c.rule-item.is) in
    let words : filter_map f (take (i + 1) rules) ≡ filter_map f (take i rules) ++ filter_map f (r ∷ []) = ap (filter_map f) front ∙ filter_map-append f (take i rules) (r ∷ []) in
    subst (λ ws. IsEachOnce ws new) (sym words) (c.in_ok-add_word.ensures (filter_map f (take i rules)) c.loop-rule.invariant)

pub returns : goal.returns
returns c =
    let rules = c.args.rules.now in
    let words = c.loop-rule.words.items in
    let all : c.loop-rule.rule-index ≡ length rules = omega arith in
    let whole : take c.loop-rule.rule-index rules ≡ rules = ap (λ n. take n rules) all ∙ take-length rules in
    are_words c.args.dialect rules words (subst (λ rs. IsEachOnce (filter_map (word_for c.args.dialect rules) rs) (map word_view words)) whole c.loop-rule.invariant)
