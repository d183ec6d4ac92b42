-- Examples, closed by computation: each verb answered and refused, and words that are no call.
use mathlib.Core.List.{List, [], ◌∷◌, map}
use mathlib.Core.Path.{◌≡◌, refl}
use Prim.Native.Nat.{ℕ}
use Prim.Native.String.{String}
use native.Mathlib.Decide.{ℕ_discrete}
use Rattle.model.specs.Finite.{any, all, keep, pick, concat, list_from, below, least_from, greatest_to}
use Rattle.model.specs.Field.{bit, unit, weigh, agree}
use Rattle.model.specs.Card.{reaches, reached, reached_kinds, reached_lines}
use Rattle.model.specs.Norm.{ready, best, sweeps, card_norm, kind_norm, gain_of}
use Rattle.model.specs.Expansion.{simulates, expands}
use Rattle.model.specs.Stage.{lowering, equal_norm, equal_norm_and_total, falling, refined, stage_from, stage_in}
use Rattle.model.specs.Base.{fields_of_norm, earlier, earlier_than, atom, row, passes, first_settled, form_at, parting_stage, rounds_for, rounds_at}
use Rattle.model.specs.Walk.{try_replies, try_challenges, examine, walk}
use Rattle.model.specs.Shelf.{entry, listed, place_of, shelf_number, shelf_field}
use Rattle.model.specs.Squads.{goes_in, times_in, remainder}
use Rattle.model.specs.Sheet.{fields_offset, total_of, counts, line_of, card_of, field_of}
use Rattle.model.specs.Refusal.{first_of, header_checks, line_checks, norm_checks, sheet_checks, settle_checks, compare_checks, form_checks, walk_checks, row_checks, shelf_number_checks, shelf_field_checks, squads_checks, frequencies_checks}
use Rattle.model.specs.Page.{bytes, digits, number, newline, counts_of, word_of, refused_line}
use Rattle.model.specs.Answer.{written, table_of, settle_of, verdict_in, compare_in, prime_form_in, forming_in, within, full_walk, walk_of, row_of, row_check_of, shelf_number_of, shelf_counts, shelf_field_of, squad_count, remainder_form, squads_of, verdict_place, judged_at, frequencies, frequencies_of}
use Rattle.model.proofs.Worked.{sheet_of, page, chain}
use Rattle.text.specs.Count.{count_text, count_texts, counts_line}
use Rattle.walk_text.specs.Line.{drawn_text, found_text}
use Rattle.words.specs.Word.{digit_of, value_from, some, number_of}
use Rattle.words.specs.Words.{first_word, started_by, words_of, same_word, said_after, numbers_of}
use Rattle.words.specs.Statements.{ended}
use Rattle.replies.specs.Told.{Told, told, no_call}
use Rattle.replies.specs.Numbers.{with_none, with_one, with_two, with_four_or_five}
use Rattle.replies.specs.declared.reply.Outcome.{Outcome}
use Rattle.replies.specs.declared.reply.Outcome.TheVariants.{Answered, Refused, NoCall}
use Rattle.replies.specs.Texts.{worded, lent_text, counts_text}
use Rattle.verbs.specs.Texts.{table_room, form_room, stages_line, row_lines, settle_text, row_in, row_after, row_text, verdict_text, compare_text_in, form_text_in}
use Rattle.walk_verb.specs.Texts.{given_to, walk_text}
use Rattle.shelf_verbs.specs.Texts.{shelf_room, shelved_line, shelved_text, number_text, field_text}
use Rattle.squads_verb.specs.Texts.{remainder_room, squads_line, squads_text}
use Rattle.frequencies_verb.specs.Texts.{frequencies_room, common_line, common_text}
use Rattle.verbs.specs.Calls.{settle_told, row_told, compare_told_in, form_told_in}
use Rattle.walk_verb.specs.Calls.{allowance_told, walk_told}
use Rattle.shelf_verbs.specs.Calls.{number_told, field_told}
use Rattle.squads_verb.specs.Calls.{squads_told}
use Rattle.frequencies_verb.specs.Calls.{common_told}
use Rattle.queries.specs.Verb.{verbs, verb_in, verb_of}
use Rattle.queries.specs.Query.{verb_told, said_told, words_told, query_of}

pub record Example : Type 0 where
  pub sheet : List ℕ
  pub words : List String
  pub told : Told

abbrev pub asks : List ℕ → List String → Outcome → String → Example
asks s words outcome text = record { sheet = s; words = words; told = record { outcome = outcome; text = bytes text } }

-- One kind, 0 a -> none, and fields of 17, of 16 and of no tokens.
abbrev pub crowded : List ℕ
crowded = sheet_of 1 1 ((0 ∷ 0 ∷ 0 ∷ []) ∷ []) ((17 ∷ []) ∷ (16 ∷ []) ∷ (0 ∷ []) ∷ [])

-- Two kinds, of which the first has no lines and is out: 1 a -> none, and a field of one token of kind 1.
abbrev pub part_used : List ℕ
part_used = sheet_of 2 1 ((1 ∷ 0 ∷ 0 ∷ 0 ∷ []) ∷ []) ((0 ∷ 1 ∷ []) ∷ [])

-- Seven kinds, k a -> none for each of them, and a field of one token of each.
abbrev pub many : List ℕ
many = sheet_of 7 1 (list_from (λ k. k ∷ 0 ∷ 0 ∷ 0 ∷ 0 ∷ 0 ∷ 0 ∷ 0 ∷ 0 ∷ []) 0 7) ((1 ∷ 1 ∷ 1 ∷ 1 ∷ 1 ∷ 1 ∷ 1 ∷ []) ∷ [])

abbrev pub examples : List Example
examples =
    asks page ("settle" ∷ []) Answered "stages 1\n1 0\n2 0\n"
    ∷ asks page ("row" ∷ "1" ∷ []) Answered "2 0\n"
    ∷ asks page ("row" ∷ "2" ∷ []) (Refused 11 0) "refused 11 0\n"
    ∷ asks page ("compare" ∷ "0" ∷ "1" ∷ []) Answered "same\n"
    ∷ asks chain ("compare" ∷ "0" ∷ "01" ∷ []) Answered "different 3 4\n"
    ∷ asks chain ("compare" ∷ "0" ∷ "12" ∷ []) (Refused 11 1) "refused 11 1\n"
    ∷ asks page ("form" ∷ "0" ∷ []) Answered "2 0\n"
    ∷ asks chain ("walk" ∷ "0" ∷ "1" ∷ "2" ∷ "10" ∷ []) Answered "apart 2 drawn 10\n"
    ∷ asks chain ("walk" ∷ "0" ∷ "1" ∷ "2" ∷ "9" ∷ []) Answered "spent drawn 9\n"
    ∷ asks chain ("walk" ∷ "0" ∷ "0" ∷ "0" ∷ "4294967295" ∷ []) Answered "together drawn 0\n"
    ∷ asks chain ("walk" ∷ "0" ∷ "1" ∷ "2" ∷ "10" ∷ "7" ∷ []) Answered "apart 2 drawn 10\n"
    ∷ asks chain ("walk" ∷ "0" ∷ "1" ∷ "2" ∷ "9" ∷ "3" ∷ []) Answered "spent drawn 9\n"
    ∷ asks chain ("walk" ∷ "0" ∷ "1" ∷ "2" ∷ "10" ∷ "8" ∷ []) (Refused 16 0) "refused 16 0\n"
    ∷ asks [] ("walk" ∷ "0" ∷ "1" ∷ "2" ∷ "10" ∷ "8" ∷ []) (Refused 16 0) "refused 16 0\n"
    ∷ asks [] ("walk" ∷ "0" ∷ "1" ∷ "2" ∷ "10" ∷ "7" ∷ []) (Refused 1 0) "refused 1 0\n"
    ∷ asks chain ("number" ∷ "1" ∷ []) Answered "size 1 number 2\n"
    ∷ asks chain ("number" ∷ "2" ∷ []) (Refused 11 0) "refused 11 0\n"
    ∷ asks crowded ("number" ∷ "0" ∷ []) (Refused 14 0) "refused 14 0\n"
    ∷ asks crowded ("number" ∷ "1" ∷ []) Answered "size 16 number 0\n"
    ∷ asks chain ("field" ∷ "2" ∷ "4" ∷ []) Answered "0 1 1\n"
    ∷ asks chain ("field" ∷ "2" ∷ "6" ∷ []) (Refused 15 0) "refused 15 0\n"
    ∷ asks chain ("field" ∷ "17" ∷ "0" ∷ []) (Refused 14 0) "refused 14 0\n"
    ∷ asks page ("squads" ∷ "1" ∷ "0" ∷ []) Answered "squads 1 = 0 0\n"
    ∷ asks crowded ("squads" ∷ "0" ∷ "1" ∷ []) Answered "squads 1 = 1\n"
    ∷ asks crowded ("squads" ∷ "1" ∷ "0" ∷ []) Answered "squads 0 = 16\n"
    ∷ asks crowded ("squads" ∷ "0" ∷ "2" ∷ []) (Refused 17 1) "refused 17 1\n"
    ∷ asks crowded ("squads" ∷ "0" ∷ "3" ∷ []) (Refused 11 1) "refused 11 1\n"
    ∷ asks page ("finer" ∷ "0" ∷ "1" ∷ []) Answered "different 0 3\n"
    ∷ asks chain ("finer" ∷ "0" ∷ "01" ∷ []) Answered "different 3 4\n"
    ∷ asks page ("finer" ∷ "1" ∷ "1" ∷ []) Answered "same\n"
    ∷ asks page ("finer" ∷ "0" ∷ "2" ∷ []) (Refused 11 1) "refused 11 1\n"
    ∷ asks page ("finer-form" ∷ "0" ∷ []) Answered "0 1\n"
    ∷ asks page ("finer-form" ∷ "1" ∷ []) Answered "2 0\n"
    ∷ asks page ("finer-form" ∷ "2" ∷ []) (Refused 11 0) "refused 11 0\n"
    ∷ asks page ("common" ∷ "0" ∷ "2" ∷ []) Answered "same 1 stages 2 0 0\n"
    ∷ asks page ("common" ∷ "1" ∷ "0" ∷ []) Answered "same 0 stages 1 0 0\n"
    ∷ asks chain ("common" ∷ "0" ∷ "1" ∷ []) Answered "same 1 stages 0 0 1 1\n"
    ∷ asks crowded ("common" ∷ "0" ∷ "16" ∷ []) Answered "same 0 stages 1 0\n"
    ∷ asks crowded ("common" ∷ "2" ∷ "0" ∷ []) Answered "same 1 stages 0 0\n"
    ∷ asks crowded ("common" ∷ "0" ∷ "17" ∷ []) (Refused 14 0) "refused 14 0\n"
    ∷ asks crowded ("common" ∷ "3" ∷ "17" ∷ []) (Refused 11 0) "refused 11 0\n"
    ∷ asks many ("common" ∷ "0" ∷ "16" ∷ []) (Refused 18 0) "refused 18 0\n"
    ∷ asks many ("common" ∷ "0" ∷ "17" ∷ []) (Refused 14 0) "refused 14 0\n"
    ∷ asks part_used ("common" ∷ "0" ∷ "1" ∷ []) Answered "same 1 stages 0 0 0\n"
    ∷ asks part_used ("settle" ∷ []) Answered "stages 1\n0 0\n0 1\n"
    ∷ asks part_used ("row" ∷ "0" ∷ []) Answered "0 0\n"
    ∷ asks part_used ("number" ∷ "0" ∷ []) Answered "size 1 number 0\n"
    ∷ asks part_used ("field" ∷ "1" ∷ "0" ∷ []) Answered "0 1\n"
    ∷ asks part_used ("field" ∷ "1" ∷ "1" ∷ []) (Refused 15 0) "refused 15 0\n"
    ∷ asks [] ("settle" ∷ []) (Refused 1 0) "refused 1 0\n"
    ∷ asks [] ("walk" ∷ "0" ∷ "0" ∷ "0" ∷ "4294967296" ∷ []) NoCall ""
    ∷ asks [] ("walk" ∷ "0" ∷ "0" ∷ "0" ∷ []) NoCall ""
    ∷ asks [] ("walk" ∷ "0" ∷ "0" ∷ "0" ∷ "0" ∷ "8" ∷ "0" ∷ []) NoCall ""
    ∷ asks [] ("settle" ∷ "0" ∷ []) NoCall ""
    ∷ asks [] ("row" ∷ []) NoCall ""
    ∷ asks [] ("number" ∷ []) NoCall ""
    ∷ asks [] ("number" ∷ "0" ∷ "1" ∷ []) NoCall ""
    ∷ asks [] ("field" ∷ "1" ∷ []) NoCall ""
    ∷ asks [] ("field" ∷ "1" ∷ "0" ∷ "0" ∷ []) NoCall ""
    ∷ asks [] ("squads" ∷ "0" ∷ []) NoCall ""
    ∷ asks [] ("squads" ∷ "0" ∷ "0" ∷ "0" ∷ []) NoCall ""
    ∷ asks [] ("finer" ∷ "0" ∷ []) NoCall ""
    ∷ asks [] ("finer" ∷ "0" ∷ "0" ∷ "0" ∷ []) NoCall ""
    ∷ asks [] ("finer-form" ∷ []) NoCall ""
    ∷ asks [] ("finer-form" ∷ "0" ∷ "1" ∷ []) NoCall ""
    ∷ asks [] ("finer-" ∷ "0" ∷ []) NoCall ""
    ∷ asks [] ("common" ∷ "0" ∷ []) NoCall ""
    ∷ asks [] ("common" ∷ "0" ∷ "0" ∷ "0" ∷ []) NoCall ""
    ∷ asks [] ("compare" ∷ "0" ∷ "" ∷ []) NoCall ""
    ∷ asks [] ("compare" ∷ "0" ∷ "18446744073709551616" ∷ []) NoCall ""
    ∷ asks [] ("compare" ∷ "0" ∷ "1" ∷ "2" ∷ "3" ∷ "4" ∷ []) NoCall ""
    ∷ asks [] ("Settle" ∷ []) NoCall ""
    ∷ asks [] ("" ∷ []) NoCall ""
    ∷ asks [] [] NoCall ""
    ∷ []

pub worked : map (λ (x : Example). query_of x.sheet (ended (map bytes x.words))) examples ≡ map (λ (x : Example). x.told) examples
unfolding any all keep pick concat list_from below least_from greatest_to bit unit ℕ_discrete weigh reaches reached reached_kinds reached_lines ready best sweeps card_norm kind_norm gain_of simulates expands lowering equal_norm equal_norm_and_total falling refined stage_from stage_in fields_of_norm earlier earlier_than atom row passes first_settled form_at parting_stage rounds_for rounds_at try_replies try_challenges examine walk entry listed agree place_of shelf_number shelf_field goes_in times_in remainder fields_offset total_of counts line_of card_of field_of first_of header_checks line_checks norm_checks sheet_checks settle_checks compare_checks form_checks walk_checks row_checks shelf_number_checks shelf_field_checks squads_checks frequencies_checks bytes digits number newline counts_of word_of refused_line written table_of settle_of verdict_in compare_in prime_form_in forming_in within full_walk walk_of row_of row_check_of shelf_number_of shelf_counts shelf_field_of squad_count remainder_form squads_of verdict_place judged_at frequencies frequencies_of count_text count_texts counts_line drawn_text found_text digit_of value_from some number_of first_word started_by words_of same_word said_after numbers_of ended told no_call with_none with_one with_two with_four_or_five worded table_room form_room shelf_room stages_line row_lines settle_text row_in row_after row_text verdict_text compare_text_in lent_text counts_text form_text_in given_to walk_text shelved_line shelved_text number_text field_text remainder_room squads_line squads_text frequencies_room common_line common_text settle_told row_told compare_told_in form_told_in allowance_told walk_told number_told field_told squads_told common_told verbs verb_in verb_of verb_told said_told words_told query_of
worked = refl
