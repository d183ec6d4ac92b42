-- What is counted by rows and by norms is how many of the fields a stage relates to the given one.
use mathlib.Core.List.{List, reverse, Memᴰ}
use mathlib.Core.Path.{◌≡◌, refl, sym, ◌∙◌, ap, ap₂, fun_ext}
use Prim.Native.Nat.{ℕ, zero, suc, ◌+◌, ◌-◌, ◌*◌, ◌^◌, ◌≤◌, ◌<◌}
use native.Mathlib.Decide.{ℕ_discrete, dec_lt}
use native.Mathlib.Omega.{arith}
use lib.Dec.{eqb}
use lib.ListN.{length, set, replicate, get_or-replicate}
use lib.Seq.{get_or-set_same, get_or-set_other}
use Rattle.model.specs.Sense.{plain}
use Rattle.model.specs.Finite.{keep, below, list_from}
use Rattle.model.specs.Field.{Field, times, unit, at, weigh, agree}
use Rattle.model.specs.Card.{Reached, reached_kinds, reached_count}
use Rattle.model.specs.Norm.{norm}
use Rattle.model.specs.Limits.{most_kinds}
use Rattle.model.specs.Base.{stage_row_in, stage_form_in, settled_stage}
use Rattle.model.specs.Shelf.{entry, listed, shelf}
use Rattle.model.specs.Sheet.{kind_count, card_of, field_of}
use Rattle.model.specs.Refusal.{Accepted}
use Rattle.model.specs.Answer.{judged_at, frequencies}
use Rattle.theory.specs.Terms.{OfKinds}
use Rattle.theory.specs.Widths.{Bytes}
use Rattle.theory.specs.Frequencies.{related_to}
use Rattle.theory.proofs.Counting.{count_same}
use Rattle.theory.proofs.Exec.{tells_eq}
use Rattle.theory.proofs.Frequencies.{related_first, related_next, related_same, related_forms, related_norms, related_settled}
use Rattle.theory.proofs.Field.{unit_same, unit_other, weigh_past, weigh_weights}
use Rattle.theory.proofs.Lists.{below_mem, from_same}
use Rattle.theory.proofs.Numbering.{mem_get_d, tells_same, tells_agree}
use Rattle.theory.proofs.Order.{get_d_mem}
use Rattle.theory.proofs.Senses.{weigh_zero}
use Rattle.theory.proofs.Sheets.{certified, field_kinds, sheet_clear, sheet_reaches, under_kinds}
use Rattle.theory.proofs.Shelves.{shelves}
use Rattle.theory.proofs.Widths.{widths}
use Rattle.sheet.specs.declared.reader.Card.{Card}
use Rattle.sheet.proofs.Laws.{kinds_are, kinds_most}
use Rattle.norms.specs.Norms.{Accepts}
use Rattle.norms.proofs.Laws.{norm_is}
use Rattle.tables.specs.Table.{row_in, form_in}
use Rattle.tables.proofs.Tables.{at_kind, zero_counts}
use Rattle.rows.proofs.Forms.{form_table, form_unit, unit_kinds}
use Rattle.rows.proofs.Sizes.{narrow, field_form_limit}
use Rattle.row_sums.specs.Sums.{adding_to}
use Rattle.stages.specs.Kept.{form_before}
use Rattle.stages.specs.Settle.{IsSettled}
use Rattle.stages.specs.declared.settle.Settled.{Settled}
use Rattle.stages.proofs.Keeping.{before_form}
use Rattle.stages.proofs.Outcomes.{settled_form_is}
use Rattle.stages.proofs.Settled.{settled_most}
use Rattle.shelf.specs.Kinds.{InOrder}
use Rattle.frequencies.specs.Related.{RowsLowered, RowsAt, related_before, placed}

-- How many of the fields of a size, over kinds, have these counts as the sum of their rows: the definition.
abbrev adding : List ℕ → List ℕ → ℕ → Field → ℕ
adding rows kinds t counts = length (keep (λ b. agree (below most_kinds) (form_in most_kinds rows b) counts) (listed (reverse kinds) t))

adding_is : (rows kinds : List ℕ) (t : ℕ) (counts : Field) → adding_to rows (reverse kinds) t counts ≡ adding rows kinds t counts
unfolding adding_to
adding_is rows kinds t counts = refl

-- The fields that are counted have tokens of reached kinds alone, and so of the card's.
listed_kinds : (s : List ℕ) (t : ℕ) (b : Field) → Memᴰ b (shelf (card_of s) t) → OfKinds (card_of s) b
listed_kinds s t b m = (((shelves s t).fields b).0 m).0

none_past : (s : List ℕ) (b : Field) → OfKinds (card_of s) b → (k : ℕ) → kind_count s ≤ k → b k ≡ 0
none_past s b u k h = go (dec_lt 0 (b k))
  where
    go : Dec (0 < b k) → b k ≡ 0
    go (yes p) = absurd (omega (arith, under_kinds s k (u k p)))
    go (no p) = omega arith

-- By rows.
module _ {s : List ℕ} {i : ℕ} {kinds since before rows form : List ℕ} where
  -- The sum of the rows of a field's tokens is its form.
  sum_is_form : (q : ℕ) → RowsAt s i (suc q) kinds since before rows form → (b : Field) → OfKinds (card_of s) b → form_in most_kinds rows b ≡ stage_form_in plain (card_of s) (suc q) b
  unfolding form_in card_of
  sum_is_form q R b u = fun_ext (λ j.
      weigh_past most_kinds (kind_count s) (λ k. row_in rows k j) b R.few (none_past s b u)
      ∙ form_table plain (card_of s) (certified s R.accepted) q (row_in rows) b (λ k h p. R.rows_are k (u k p)) j)

  pub count_is_related : (q : ℕ) → 1 ≤ q → RowsAt s i q kinds since before rows form → (t : ℕ) → adding_to rows (reverse kinds) t (at form) ≡ related_to (card_of s) (field_of s i) t q
  count_is_related zero h R t = absurd (omega arith)
  count_is_related (suc q) h R t =
      adding_is rows kinds t (at form)
      ∙ ap₂ (λ (ks : List ℕ) (x : Field). adding rows ks t x) R.kinds_are R.form_is
      ∙ count_same _ _ (shelf (card_of s) t) (λ b m. ap (λ (x : Field). agree (below most_kinds) x (stage_form_in plain (card_of s) (suc q) (field_of s i))) (sum_is_form q R b (listed_kinds s t b m)))
      ∙ sym (related_forms s R.accepted i t q)

  -- From a stage down to the one before it.
  module _ (q : ℕ) (R : RowsAt s i (suc (suc q)) kinds since before rows form) where
    lower : (a : Field) → OfKinds (card_of s) a → form_before since before (suc (suc q)) (stage_form_in plain (card_of s) (suc (suc q)) a) ≡ stage_form_in plain (card_of s) (suc q) a
    lower = before_form plain s R.accepted R.kept.0 R.kept.2 q R.kept.1 R.few

    pub form_lowered : form_before since before (suc (suc q)) (at form) ≡ stage_form_in plain (card_of s) (suc q) (field_of s i)
    form_lowered = rw R.form_is (lower (field_of s i) (field_kinds s (sheet_clear s R.accepted) i))

    pub row_lowered_is : (k : ℕ) → Reached (card_of s) k → form_before since before (suc (suc q)) (row_in rows k) ≡ stage_row_in plain (card_of s) (suc q) k
    unfolding card_of
    row_lowered_is k h =
        let l = under_kinds s k h in
        ap (form_before since before (suc (suc q))) (R.rows_are k h ∙ sym (form_unit plain (card_of s) (certified s R.accepted) (suc q) k l))
        ∙ lower (unit k) (unit_kinds (card_of s) (certified s R.accepted) k h) ∙ form_unit plain (card_of s) (certified s R.accepted) q k l

  -- The kinds of the list are the reached ones.
  module _ {t : ℕ} (R : RowsAt s i t kinds since before rows form) where
    member_reached : (k : ℕ) → Memᴰ k kinds → Reached (card_of s) k
    member_reached k m = ((sheet_reaches s).kinds_iff k).0 (rw R.kinds_are at m)

    kind_reached : (x : ℕ) → x < length kinds → Reached (card_of s) (at kinds x)
    kind_reached x h = member_reached (at kinds x) (get_d_mem kinds x 0 h)

    kind_listed : (k : ℕ) → Reached (card_of s) k → (x : ℕ) × (x < length kinds) × (at kinds x ≡ k)
    kind_listed k h = mem_get_d k 0 (rw (← R.kinds_are) at (((sheet_reaches s).kinds_iff k).1 h))

  -- The rows and the form of the stage before fit 64 bits.
  pub rows_fit : (t : ℕ) → 1 < t → RowsAt s i t kinds since before rows form → (x j : ℕ) → x < length kinds → form_before since before t (row_in rows (at kinds x)) j < 2 ^ 64
  rows_fit zero h R x j l = absurd (omega arith)
  rows_fit (suc zero) h R x j l = absurd (omega arith)
  rows_fit (suc (suc q)) h R x j l =
      let reached = kind_reached R x l in
      omega (arith, at_kind (row_lowered_is q R (at kinds x) reached) j, (widths s R.bytes R.accepted).row_count plain q (at kinds x) j (under_kinds s (at kinds x) reached), narrow.1)

  pub form_fits : (t : ℕ) → 1 < t → RowsAt s i t kinds since before rows form → (j : ℕ) → form_before since before t (at form) j < 2 ^ 64
  form_fits zero h R j = absurd (omega arith)
  form_fits (suc zero) h R j = absurd (omega arith)
  form_fits (suc (suc q)) h R j = omega (arith, at_kind (form_lowered q R) j, field_form_limit plain s R.accepted q R.bytes i j, narrow.0)

  -- One stage down.
  pub rows_before : (t : ℕ) → 1 < t → RowsAt s i t kinds since before rows form → (lowered given : List ℕ) → RowsLowered kinds since before t rows lowered
      → at given ≡ form_before since before t (at form) → RowsAt s i (t - 1) kinds since before lowered given
  rows_before zero h R lowered given each e = absurd (omega arith)
  rows_before (suc zero) h R lowered given each e = absurd (omega arith)
  rows_before (suc (suc q)) h R lowered given each e = record {
    accepted = R.accepted;
    bytes = R.bytes;
    few = R.few;
    kinds_are = R.kinds_are;
    in_order = R.in_order;
    kept = (R.kept.0, omega (arith, R.kept.1), R.kept.2);
    rows_are = λ k r. let x = kind_listed R k r in rw (stage, ← x.2) (each x.0 x.1 ∙ row_lowered_is q R (at kinds x.0) (kind_reached R x.0 x.1));
    form_is = rw stage (e ∙ form_lowered q R);
  }
    where
      stage : suc (suc q) - 1 ≡ suc q
      stage = omega arith

-- By norms.
module _ {s : List ℕ} {card : Card} {norms : List ℕ} (A : Accepts s card norms) (table : List ℕ) (R : (k : ℕ) → k < most_kinds → row_in table k ≡ times (at norms k) (unit 0)) where
  -- Of rows that have a kind's norm as their first count, the sum of a field's tokens has its norm there, and no other count.
  sum_weights : (b : Field) → OfKinds (card_of s) b → (j : ℕ) → form_in most_kinds table b j ≡ weigh card.kinds (λ k. at norms k * unit 0 j) b
  unfolding form_in
  sum_weights b u j =
      weigh_weights most_kinds (λ k. row_in table k j) (λ k. at norms k * unit 0 j) b (λ k h _. at_kind (R k h) j)
      ∙ weigh_past most_kinds card.kinds (λ k. at norms k * unit 0 j) b (kinds_most A.reads) (λ k h. none_past s b u k (omega (arith, kinds_are A.reads)))

  sum_norm : (b : Field) → OfKinds (card_of s) b → form_in most_kinds table b 0 ≡ norm (card_of s) b
  sum_norm b u =
      sum_weights b u 0
      ∙ weigh_weights card.kinds (λ k. at norms k * unit 0 0) (at norms) b (λ k _ _. rw (unit_same 0) (omega arith)) ∙ norm_is A b

  sum_none : (b : Field) → OfKinds (card_of s) b → (j : ℕ) → ¬ (j ≡ 0) → form_in most_kinds table b j ≡ 0
  sum_none b u j n =
      sum_weights b u j
      ∙ weigh_weights card.kinds (λ k. at norms k * unit 0 j) (λ _. 0) b (λ k _ _. rw (unit_other 0 j n) (omega arith)) ∙ weigh_zero card.kinds b

  pub count_is_norms : (i t : ℕ) {kinds : List ℕ} (v : ℕ) → v ≡ norm (card_of s) (field_of s i) → kinds ≡ reached_kinds (card_of s)
      → adding_to table (reverse kinds) t (at (set (replicate most_kinds 0) 0 v)) ≡ related_to (card_of s) (field_of s i) t 0
  count_is_norms i t {kinds} v e all =
      adding_is table kinds t (at counts) ∙ ap (λ (ks : List ℕ). adding table ks t (at counts)) all ∙ count_same _ _ (shelf (card_of s) t) same ∙ sym (related_norms s A.accepted i t)
    where
      counts : List ℕ
      counts = set (replicate most_kinds 0) 0 v

      first : at counts 0 ≡ norm (card_of s) (field_of s i)
      first = get_or-set_same (replicate most_kinds 0) 0 v 0 (omega arith) ∙ e

      others : (j : ℕ) → ¬ (j ≡ 0) → at counts j ≡ 0
      others j n = get_or-set_other (replicate most_kinds 0) 0 j v 0 n ∙ zero_counts most_kinds j

      same : (b : Field) → Memᴰ b (shelf (card_of s) t) → agree (below most_kinds) (form_in most_kinds table b) (at counts) ≡ eqb (norm (card_of s) b) (norm (card_of s) (field_of s i))
      same b m =
          tells_same _ _ (tells_agree (below most_kinds) (form_in most_kinds table b) (at counts)) (tells_eq (norm (card_of s) b) (norm (card_of s) (field_of s i)))
          (λ f. sym (sum_norm b u) ∙ f 0 (below_mem most_kinds 0 (omega arith)) ∙ first)
          (λ f j _. go f j (ℕ_discrete j 0))
        where
          u : OfKinds (card_of s) b
          u = listed_kinds s t b m

          go : norm (card_of s) b ≡ norm (card_of s) (field_of s i) → (j : ℕ) → Dec (j ≡ 0) → form_in most_kinds table b j ≡ at counts j
          go f j (yes z) = rw z (sum_norm b u ∙ f ∙ sym first)
          go f j (no n) = sum_none b u j n ∙ sym (others j n)

-- The counts of the stages from t up to the last are set, and those past the last are its own.
pub record CountedTo (s : List ℕ) (i size last : ℕ) (related : List ℕ) (t : ℕ) : Type 0 where
  pub from : (q : ℕ) → t ≤ q → q ≤ last → at related q ≡ related_to (card_of s) (field_of s i) size q
  pub past : (q : ℕ) → last ≤ q → q ≤ most_kinds → at related q ≡ related_to (card_of s) (field_of s i) size last

module _ {s : List ℕ} {i size last : ℕ} where
  pub counted_last : (v : ℕ) → last ≤ most_kinds → v ≡ related_to (card_of s) (field_of s i) size last → CountedTo s i size last (replicate 33 v) last
  counted_last v h e = record {
    from = λ q l m. let z : q ≡ last = omega arith in get_or-replicate 33 q v 0 (omega arith) ∙ rw z e;
    past = λ q l m. get_or-replicate 33 q v 0 (omega arith) ∙ e;
  }

  pub counted_before : {related : List ℕ} {t v : ℕ} → 1 < t → t ≤ last → length related ≡ 33 → last ≤ most_kinds → CountedTo s i size last related t
      → v ≡ related_to (card_of s) (field_of s i) size (t - 1) → CountedTo s i size last (set related (t - 1) v) (t - 1)
  counted_before {related} {t} {v} h m long few C e = record {
    from = λ q l n. go q l n (ℕ_discrete q (t - 1));
    past = λ q l n. get_or-set_other related (t - 1) q v 0 (λ z. omega arith) ∙ C.past q l n;
  }
    where
      go : (q : ℕ) → t - 1 ≤ q → q ≤ last → Dec (q ≡ t - 1) → at (set related (t - 1) v) q ≡ related_to (card_of s) (field_of s i) size q
      go q l n (yes z) = rw z (get_or-set_same related (t - 1) v 0 (omega arith) ∙ e)
      go q l n (no z) = get_or-set_other related (t - 1) q v 0 z ∙ C.from q (omega arith) n

-- Of a settled sheet.
module _ (s : List ℕ) (ok : Accepted s) (r : Settled) (S : IsSettled plain s r) (i : ℕ) where
  -- Its reached kinds, their rows and the form of the field at the settled stage, and what is kept of the stages.
  pub rows_settled : Bytes s → kind_count s ≤ most_kinds → {kinds : List ℕ} → kinds ≡ reached_kinds (card_of s) → InOrder kinds → (rows form : List ℕ) → rows ≡ r.base.rows
      → at form ≡ form_in (kind_count s) r.base.rows (field_of s i) → RowsAt s i r.stage kinds r.base.since r.before rows form
  rows_settled bytes few all sorted rows form e d = rw (S.stage_is, e) (record {
    accepted = ok;
    bytes = bytes;
    few = few;
    kinds_are = all;
    in_order = sorted;
    kept = (settled_stage (card_of s), omega arith, S.kept_is);
    rows_are = λ k h. S.base_is k (under_kinds s k h);
    form_is = d ∙ settled_form_is plain s ok r.base.rows S.base_is i;
  })

  -- The counts of the later stages, which past the settled stage stay what they are there.
  pub related_later : (size : ℕ) (related : List ℕ) → ((q : ℕ) → 1 ≤ q → q ≤ r.stage → at related q ≡ related_to (card_of s) (field_of s i) size q)
      → ((q : ℕ) → r.stage ≤ q → q ≤ most_kinds → at related q ≡ related_to (card_of s) (field_of s i) size r.stage)
      → (q : ℕ) → 1 ≤ q → q ≤ most_kinds → at related q ≡ related_to (card_of s) (field_of s i) size q
  related_later size related later past q h l = go (dec_lt r.stage q)
    where
      go : Dec (r.stage < q) → at related q ≡ related_to (card_of s) (field_of s i) size q
      go (no m) = later q h (omega arith)
      go (yes m) = past q (omega arith) l ∙ ap (related_to (card_of s) (field_of s i) size) S.stage_is ∙ sym (related_settled s ok i size q (omega (arith, S.stage_is)))

module _ (s : List ℕ) (ok : Accepted s) (i size : ℕ) where
  -- Where stage 0 relates none no stage does.
  pub related_none : (v : ℕ) → v ≡ related_to (card_of s) (field_of s i) size 0 → v ≡ 0 → (q : ℕ) → at (replicate 33 0) q ≡ related_to (card_of s) (field_of s i) size q
  related_none v e z zero = zero_counts 33 0 ∙ sym z ∙ e
  related_none v e z (suc q) = omega (arith, zero_counts 33 (suc q), zero_counts 33 q, related_none v e z q, related_next s ok i size q)

  -- All counts: that of stage 0 beside those of the later stages.
  pub related_all : (v : ℕ) (related : List ℕ) → length related ≡ 33 → ((q : ℕ) → 1 ≤ q → q ≤ most_kinds → at related q ≡ related_to (card_of s) (field_of s i) size q)
      → v ≡ related_to (card_of s) (field_of s i) size 0 → (q : ℕ) → q ≤ most_kinds → at (set related 0 v) q ≡ related_to (card_of s) (field_of s i) size q
  related_all v related long later e q h = go (ℕ_discrete q 0)
    where
      go : Dec (q ≡ 0) → at (set related 0 v) q ≡ related_to (card_of s) (field_of s i) size q
      go (yes z) = rw z (get_or-set_same related 0 v 0 (omega arith) ∙ e)
      go (no n) = get_or-set_other related 0 q v 0 n ∙ later q (omega arith) h

-- The entry for the kinds that are listed.
pub entry_for : (s kinds : List ℕ) (size : ℕ) → kinds ≡ reached_kinds (card_of s) → entry (length kinds) size ≡ entry (reached_count (card_of s)) size
entry_for s kinds size all = ap (λ (ks : List ℕ). entry (length ks) size) all

-- The counts of the places are the frequencies.
module _ (s : List ℕ) (ok : Accepted s) (i size : ℕ) (related : List ℕ) (few : kind_count s ≤ most_kinds) (C : (q : ℕ) → q ≤ most_kinds → at related q ≡ related_to (card_of s) (field_of s i) size q)
    (all : ℕ) (e : all ≡ entry (reached_count (card_of s)) size) where
  pub related_falls : (q : ℕ) → q ≤ kind_count s → at related q ≤ related_before all related q
  unfolding related_before
  related_falls zero h = omega (arith, C 0 (omega arith), related_first s ok i size)
  related_falls (suc q) h = omega (arith, C q (omega arith), C (suc q) (omega arith), related_next s ok i size q)

  pub places_are : list_from (placed all related (kind_count s)) 0 (kind_count s + 2) ≡ frequencies s i size
  unfolding frequencies placed related_before
  places_are = from_same (placed all related (kind_count s)) _ 0 (kind_count s + 2) (λ p _ l. place p (omega arith))
    where
      place : (p : ℕ) → p < kind_count s + 2 → placed all related (kind_count s) p ≡ length (judged_at (card_of s) (field_of s i) size p)
      place zero h = C (kind_count s) few ∙ sym (related_same s ok i size (kind_count s) (settled_most plain s ok))
      place (suc zero) h = omega (arith, C 0 (omega arith), related_first s ok i size)
      place (suc (suc q)) h = omega (arith, C q (omega arith), C (suc q) (omega arith), related_next s ok i size q)
