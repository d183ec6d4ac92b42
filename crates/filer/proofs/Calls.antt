-- What the calls answer: where the sheet's checks refuse, where the call's own do, and what a settled sheet gives.
use mathlib.Core.List.{List, []}
use mathlib.Core.Path.{◌≡◌, sym, ◌∙◌, ap, ap₂}
use Prim.Native.Nat.{ℕ, ◌+◌, ◌*◌, ◌/◌, ◌%◌, ◌^◌, ◌≤◌, ◌<◌}
use native.Mathlib.Nat.{div-add-mod'}
use native.Mathlib.Omega.{arith}
use lib.ListN.{length, get_or, take}
use lib.Seq.{ext_get_or, length-take-le, get_or-take}
use Rattle.model.specs.Sense.{Sense, plain}
use Rattle.model.specs.Field.{Field, at}
use Rattle.model.specs.Card.{Reached}
use Rattle.model.specs.Base.{gain, settled_stage, since}
use Rattle.model.specs.Sheet.{kind_count, field_count, card_of}
use Rattle.model.specs.Limits.{most_kinds, Limits}
use Rattle.model.specs.Refusal.{refusal, first_of, accept_checks, Accepted, settle_checks, settle_since_checks, compare_checks, form_checks}
use Rattle.theory.specs.Widths.{Bytes}
use Rattle.theory.specs.Since.{Sinces}
use Rattle.model.specs.Answer.{refused, given, different, settle_of, settle_since_of, compare_in, forming_in, table_of, marks_of, prime_form_in, written}
use Rattle.theory.proofs.Checks.{first_left, first_right}
use Rattle.theory.proofs.Reach.{dec_tells}
use Rattle.theory.proofs.Sheets.{tells_reached}
use Rattle.theory.proofs.Answers.{demand1}
use Rattle.theory.proofs.Meanings.{meanings}
use Rattle.validation.specs.Fields.{field_checks}
use Rattle.validation.proofs.Checking.{past_stops, past_passes, less_stops, less_passes}
use Rattle.validation.proofs.FieldNumbers.{fields_refused}
use Rattle.rows.specs.Stage.{BaseAt}
use Rattle.filer.specs.Settlement.{table_in}
use Rattle.filer.proofs.Writing.{table_long, row_under, count_under, table_at}

module _ (s : List ℕ) where
  -- The sheet's own checks refuse.
  module _ (k p : ℕ) (e : first_of (accept_checks s) ≡ refusal k p) where
    pub compare_refused : (sense : Sense) (i j : ℕ) → compare_in sense s i j ≡ refused k p
    unfolding compare_checks
    compare_refused sense i j = (demand1 s).compare_refused sense i j k p (first_left (accept_checks s) _ k p e)

    pub settle_refused : (table : List ℕ) → settle_of s table ≡ record { answer = refused k p; lent = table }
    unfolding settle_checks
    settle_refused table = (demand1 s).settle_refused table k p (first_left (accept_checks s) _ k p e)

    pub since_refused : (table marks : List ℕ) → settle_since_of s table marks ≡ record { answer = refused k p; table = table; marks = marks }
    unfolding settle_since_checks
    since_refused table marks = (demand1 s).since_refused table marks k p (first_left (accept_checks s) _ k p e)

    pub form_refused : (sense : Sense) (i : ℕ) (buffer : List ℕ) → forming_in sense s i buffer ≡ record { answer = refused k p; lent = buffer }
    unfolding form_checks
    form_refused sense i buffer = (demand1 s).form_refused sense i buffer k p (first_left (accept_checks s) _ k p e)

  module _ (ok : Accepted s) where
    -- The call's own checks refuse: 11 and 12.
    pub fields_large : (sense : Sense) (i j k p : ℕ) → first_of (field_checks (field_count s) i j) ≡ refusal k p → compare_in sense s i j ≡ refused k p
    unfolding Accepted compare_checks
    fields_large sense i j k p e = (demand1 s).compare_refused sense i j k p (first_right (accept_checks s) _ ok ∙ fields_refused (field_count s) i j [] k p e)

    pub table_short : (table : List ℕ) → length table < kind_count s * kind_count s → settle_of s table ≡ record { answer = refused 12 0; lent = table }
    unfolding Accepted settle_checks
    table_short table h = (demand1 s).settle_refused table 12 0 (first_right (accept_checks s) _ ok ∙ less_stops 12 0 [] (length table) (kind_count s * kind_count s) h)

    pub since_table_short : (table marks : List ℕ) → length table < kind_count s * kind_count s → settle_since_of s table marks ≡ record { answer = refused 12 0; table = table; marks = marks }
    unfolding Accepted settle_since_checks
    since_table_short table marks h =
        (demand1 s).since_refused table marks 12 0 (first_right (accept_checks s) _ ok ∙ less_stops 12 0 _ (length table) (kind_count s * kind_count s) h)

    pub since_marks_short : (table marks : List ℕ) → kind_count s * kind_count s ≤ length table → length marks < kind_count s
        → settle_since_of s table marks ≡ record { answer = refused 12 0; table = table; marks = marks }
    unfolding Accepted settle_since_checks
    since_marks_short table marks h l =
        (demand1 s).since_refused table marks 12 0
        (first_right (accept_checks s) _ ok ∙ less_passes 12 0 _ (length table) (kind_count s * kind_count s) h ∙ less_stops 12 0 [] (length marks) (kind_count s) l)

    pub no_field : (sense : Sense) (i : ℕ) (buffer : List ℕ) → field_count s ≤ i → forming_in sense s i buffer ≡ record { answer = refused 11 0; lent = buffer }
    unfolding Accepted form_checks
    no_field sense i buffer h = (demand1 s).form_refused sense i buffer 11 0 (first_right (accept_checks s) _ ok ∙ past_stops 11 0 _ i (field_count s) h)

    pub buffer_short : (sense : Sense) (i : ℕ) (buffer : List ℕ) → i < field_count s → length buffer < kind_count s → forming_in sense s i buffer ≡ record { answer = refused 12 0; lent = buffer }
    unfolding Accepted form_checks
    buffer_short sense i buffer l h =
        (demand1 s).form_refused sense i buffer 12 0
        (first_right (accept_checks s) _ ok ∙ past_passes 11 0 _ i (field_count s) l ∙ less_stops 12 0 [] (length buffer) (kind_count s) h)

    -- A sheet that is accepted lies within the limits.
    pub limits : Limits s
    limits = (demand1 s).accepted.0 ok

    -- The table of the settled stage's rows.
    pub table_is : (rows : List ℕ) → BaseAt plain s (settled_stage (card_of s)) rows → table_in (kind_count s) rows ≡ table_of s
    table_is rows B = ext_get_or 0 (table_in (kind_count s) rows) (table_of s) (table_long (kind_count s) rows ∙ sym (demand1 s).table_size) each
      where
        each : (i : ℕ) → i < length (table_in (kind_count s) rows) → get_or (table_in (kind_count s) rows) i 0 ≡ get_or (table_of s) i 0
        each i l =
            let h : i < kind_count s * kind_count s = omega (arith, table_long (kind_count s) rows) in
            let r = row_under (kind_count s) rows i h in
            table_at (kind_count s) rows i h ∙ ap (λ (f : Field). f (i % kind_count s)) (B (i / kind_count s) r)
            ∙ sym ((demand1 s).table_row (i / kind_count s) (i % kind_count s) r (count_under (kind_count s) rows i h))
            ∙ ap (at (table_of s)) (div-add-mod' i (kind_count s))

    -- Settle: the stage, and the table written.
    pub settle_given : (rows table : List ℕ) → BaseAt plain s (settled_stage (card_of s)) rows → kind_count s * kind_count s ≤ length table
        → settle_of s table ≡ record { answer = given (settled_stage (card_of s)); lent = written (table_in (kind_count s) rows) table }
    settle_given rows table B h = (demand1 s).settled limits table h ∙ ap (λ (xs : List ℕ). record { answer = given (settled_stage (card_of s)); lent = written xs table }) (sym (table_is rows B))

    -- The marks of the settled base: the first n of the array, each at most 32.
    module _ (marked : List ℕ) (long : kind_count s ≤ length marked) (are : (k : ℕ) → k < kind_count s → at marked k ≡ since (card_of s) k) where
      marks_are : take (kind_count s) marked ≡ marks_of s
      marks_are = ext_get_or 0 (take (kind_count s) marked) (marks_of s) (length-take-le (kind_count s) marked long ∙ sym (demand1 s).marks_size) each
        where
          each : (k : ℕ) → k < length (take (kind_count s) marked) → get_or (take (kind_count s) marked) k 0 ≡ get_or (marks_of s) k 0
          each k l =
              let h : k < kind_count s = omega (arith, length-take-le (kind_count s) marked long) in
              get_or-take (kind_count s) marked k 0 h ∙ are k h ∙ sym ((demand1 s).since_marks k h)

      pub marks_small : Bytes s → (k : ℕ) → k < kind_count s → at marked k ≤ most_kinds
      marks_small bytes k h = go (dec_tells _ (tells_reached s ok k))
        where
          S : Sinces {0} plain (card_of s)
          S = (meanings {0}).sinces plain s ok

          go : Dec (Reached (card_of s) k) → at marked k ≤ most_kinds
          go (yes v) = omega (arith, are k h, S.most k v, ((meanings {0}).widths s bytes ok).stage_most plain)
          go (no v) = omega (arith, are k h, S.out k v)

      -- Settle with the marks: the stage, the table written, and the marks.
      pub since_given : (rows table marks : List ℕ) → BaseAt plain s (settled_stage (card_of s)) rows → kind_count s * kind_count s ≤ length table → kind_count s ≤ length marks
          → settle_since_of s table marks
          ≡ record { answer = given (settled_stage (card_of s)); table = written (table_in (kind_count s) rows) table; marks = written (take (kind_count s) marked) marks }
      since_given rows table marks B h l =
          (demand1 s).since_given table marks (((demand1 s).since_taken (length table) (length marks)).1 (limits, h, l))
          ∙ ap₂ (λ (xs ys : List ℕ). record { answer = given (settled_stage (card_of s)); table = written xs table; marks = written ys marks }) (sym (table_is rows B)) (sym marks_are)

    -- Prime form: the counts written, where the first n of them are the prime form.
    pub form_given : (sense : Sense) (i : ℕ) (counts buffer : List ℕ) → i < field_count s → kind_count s ≤ length buffer → counts ≡ prime_form_in sense s i
        → forming_in sense s i buffer ≡ record { answer = given tt; lent = written counts buffer }
    form_given sense i counts buffer h l e = (demand1 s).formed limits sense i buffer h l ∙ ap (λ (xs : List ℕ). record { answer = given tt; lent = written xs buffer }) (sym e)

    -- The rounds that Compare reports fit 64 bits.
    pub rounds_fit : Bytes s → (sense : Sense) (i j t r : ℕ) → i < field_count s → j < field_count s → compare_in sense s i j ≡ given (different t r) → r < 2 ^ 64
    rounds_fit bytes sense i j t r h l e =
        let W = (meanings {0}).widths s bytes ok in
        omega (arith, (W.verdict_most sense i j t r h l e).1, W.narrow.1)

    pub gain_fits : Bytes s → gain (card_of s) + 1 < 2 ^ 64
    gain_fits bytes = let W = (meanings {0}).widths s bytes ok in omega (arith, W.gain_most)
