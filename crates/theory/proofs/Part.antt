-- The answers of a card are those of its reached part.
use mathlib.Core.Bool.{Bool, true, false, not}
use mathlib.Core.List.{List}
use mathlib.Core.Path.{◌≡◌, refl, sym, ◌∙◌, ap, fun_ext}
use Prim.Native.Nat.{ℕ, zero, suc, ◌≤◌, ◌<◌, min}
use native.Mathlib.Decide.{dec_lt}
use native.Mathlib.Omega.{arith}
use lib.Dec.{leb}
use lib.ListN.{length}
use Rattle.model.specs.Finite.{both, any, all, keep, pick, below, least_from}
use Rattle.model.specs.Field.{Field, none, unit, weigh, agree}
use Rattle.model.specs.Card.{Line, Card, On, Reached, held, leads, reached, reached_kinds, reached_count, reached_lines, fire}
use Rattle.model.specs.Norm.{Clears, norm_by, card_norm, kind_norm, gain_of}
use Rattle.model.specs.Expansion.{expands}
use Rattle.model.specs.Sense.{Sense, plain, finer}
use Rattle.model.specs.Stage.{equal_norm, equal_norm_and_total, equal_in, stage_from, stage_in}
use Rattle.model.specs.Base.{fields_of_norm, earlier, earlier_than, atom, row, passes, first_settled, form_at, since_at, parting_stage, rounds_for, rounds_at}
use Rattle.model.specs.Answer.{Verdict, same, different, verdict_in}
use Rattle.theory.specs.Meanings.{Parts, part}
use Rattle.model.specs.Sheet.{card_of}
use Rattle.model.specs.Refusal.{clear, first_of, sheet_checks}
use Rattle.theory.specs.Terms.{OnReached, OfKinds}
use Rattle.theory.proofs.Field.{unit_same, weigh_unit}
use Rattle.theory.proofs.Base.{unit_some}
use Rattle.theory.proofs.Reach.{dec_tells, tells_same, fire_kinds}
use Rattle.theory.proofs.Fewest.{Tame, clears_map, clears_reached, clears_fewest, all_norm, reads, reach, reached_norm, out_norm}
use Rattle.theory.proofs.Sweeps.{norm_attained}
use Rattle.theory.proofs.Sheets.{tame}
use Rattle.theory.proofs.Used.{keep_all}

-- What clears a kind by one card's lines clears it by another's, in as many reads.
norm_less : (c d : Card) → Tame c → Tame d → (k : ℕ) → k < c.kinds → ((r : ℕ) → Clears (On c) r (unit k) → Clears (On d) r (unit k))
    → 0 < card_norm c k → (0 < card_norm d k) × (k < d.kinds → card_norm d k ≤ card_norm c k)
norm_less c d S U k h f p =
    let e = weigh_unit c.kinds (card_norm c) k h in
    let x = f (all_norm c S (unit k)) (reads c S (unit k) (λ j i. rw (unit_some k j i) (h, p))) in
    (clears_reached d U _ (unit k) x k (omega (arith, unit_same k)), λ i. omega (arith, clears_fewest d U _ (unit k) x, weigh_unit d.kinds (card_norm d) k i))

module _ (c : Card) (S : Tame c) where
  abbrev p : Card
  p = part c

  on_card : (l : Line) → On p l → OnReached c l
  on_card l o = ((reach c S).lines_iff l).0 o

  on_part : (l : Line) → OnReached c l → On p l
  on_part l o = ((reach c S).lines_iff l).1 o

  S' : Tame (part c)
  S' = record { kinds = λ l o. S.kinds l (on_card l o).0; counts = λ l o. S.counts l (on_card l o).0; entered = S.entered }

  to_card : (k : ℕ) → Reached p k → Reached c k
  to_card k (held a m h) = held a m h
  to_card k (leads l o r h) = leads l (on_card l o).0 (to_card l.kind r) h

  to_part : (k : ℕ) → Reached c k → Reached p k
  to_part k (held a m h) = held a m h
  to_part k (leads l o r h) = leads l (on_part l (o, r)) (to_part l.kind r) h

  same_reached : reached p ≡ reached c
  same_reached = fun_ext (λ k.
      tells_same (reached p k) (reached c k)
      (record { fact = λ t. to_card k (((reach p S').test_iff k).0 t); test = λ r. ((reach p S').test_iff k).1 (to_part k r) })
      (record { fact = ((reach c S).test_iff k).0; test = ((reach c S).test_iff k).1 }))

  same_kinds : reached_kinds p ≡ reached_kinds c
  unfolding reached_kinds
  same_kinds = ap (λ (q : ℕ → Bool). keep q (below c.kinds)) same_reached

  same_lines : reached_lines p ≡ reached_lines c
  unfolding reached_lines
  same_lines = keep_all (λ (l : Line). reached p l.kind) (reached_lines c) (λ l o. ((reach p S').test_iff l.kind).1 (to_part l.kind (on_card l o).1))

  -- The norms.
  clears_part : (r : ℕ) (a : Field) → OfKinds c a → Clears (On c) r a → Clears (On p) r a
  unfolding Clears
  clears_part zero a f e = e
  clears_part (suc r) a f (l, o, h, x) = let i = f l.kind h in (l, on_part l (o, i), h, clears_part r (fire l a) (fire_kinds c l a (o, i) f) x)

  same_card_norm : (k : ℕ) → Reached c k → card_norm p k ≡ card_norm c k
  same_card_norm k v = go (dec_lt 0 (card_norm p k)) (dec_lt 0 (card_norm c k))
    where
      h : k < c.kinds
      h = (reach c S).under k v

      out : 0 < card_norm p k → (0 < card_norm c k) × (k < c.kinds → card_norm c k ≤ card_norm p k)
      out = norm_less p c S' S k h (λ r. clears_map (On p) (On c) (λ l o. (on_card l o).0) r (unit k))

      back : 0 < card_norm c k → (0 < card_norm p k) × (k < c.kinds → card_norm p k ≤ card_norm c k)
      back = norm_less c p S S' k h (λ r. clears_part r (unit k) (λ j i. rw (unit_some k j i) v))

      go : Dec (0 < card_norm p k) → Dec (0 < card_norm c k) → card_norm p k ≡ card_norm c k
      go (yes x) (yes y) = omega (arith, (out x).1 h, (back y).1 h)
      go (yes x) (no y) = absurd (y (out x).0)
      go (no x) (yes y) = absurd (x (back y).0)
      go (no x) (no y) = omega arith

  same_norm_at : (k : ℕ) → kind_norm p k ≡ kind_norm c k
  same_norm_at k = go (dec_tells (reached c k) (record { fact = ((reach c S).test_iff k).0; test = ((reach c S).test_iff k).1 }))
    where
      go : Dec (Reached c k) → kind_norm p k ≡ kind_norm c k
      go (yes v) = reached_norm p S' k (to_part k v) ∙ same_card_norm k v ∙ sym (reached_norm c S k v)
      go (no n) = out_norm p S' k (λ r. n (to_card k r)) ∙ sym (out_norm c S k n)

  same_norm : kind_norm p ≡ kind_norm c
  same_norm = fun_ext same_norm_at

  -- By its own lines the part gives each reached kind its norm, and a kind that is out none, since it has no line of it.
  part_norm : (k : ℕ) → card_norm p k ≡ kind_norm c k
  part_norm k = go (dec_tells (reached c k) (record { fact = ((reach c S).test_iff k).0; test = ((reach c S).test_iff k).1 }))
    where
      none_out : (¬ Reached c k) → Dec (0 < card_norm p k) → card_norm p k ≡ 0
      none_out n (yes h) = let t = norm_attained p k h in absurd (n (rw t.2 at (on_card t.0 t.1).1))
      none_out n (no h) = omega arith

      go : Dec (Reached c k) → card_norm p k ≡ kind_norm c k
      go (yes v) = same_card_norm k v ∙ sym (reached_norm c S k v)
      go (no n) = none_out n (dec_lt 0 (card_norm p k)) ∙ sym (out_norm c S k n)

  -- The stages, the rows, what they pass.
  same_start : (m : Sense) (w : ℕ → ℕ) → equal_in m p w ≡ equal_in m c w
  unfolding equal_norm equal_norm_and_total
  same_start plain w = refl
  same_start finer w = refl

  same_stage : (m : Sense) (w : ℕ → ℕ) → stage_in m p w ≡ stage_in m c w
  unfolding stage_in
  same_stage m w =
      ap (λ (xs : List Line). stage_from c.kinds xs w (equal_in m p w)) same_lines ∙ ap (λ (r : Field → Field → Bool). stage_from c.kinds (reached_lines c) w r) (same_start m w)

  module _ (w : ℕ → ℕ) (R : ℕ → Field → Field → Bool) where
    before : (ℕ → Bool) → ℕ → ℕ → Bool
    before q k j = both (q j) (earlier w j k)

    RowBy : (ℕ → Bool) → ℕ → ℕ → Field
    RowBy q s k =
        elim (q k) [
          | true ↦ pick (R s (unit k))
              (fields_of_norm c.kinds (λ j. both (before q k j) (not (any (R s (unit j)) (fields_of_norm c.kinds (before q j) w (w j))))) w (w k)) (unit k)
          | false ↦ none
        ]

    row_by : row c w R ≡ RowBy (reached c)
    unfolding row atom earlier_than RowBy before
    row_by = refl

    row_part_is : row p w R ≡ RowBy (reached p)
    unfolding row atom earlier_than RowBy before
    row_part_is = refl

    same_row : row p w R ≡ row c w R
    same_row = row_part_is ∙ ap RowBy same_reached ∙ sym row_by

    PassBy : List Line → List ℕ → (ℕ → ℕ → Field) → ℕ → Bool
    PassBy xs ks rows s = all (λ k. expands xs (R s) (unit k) (rows s k)) ks

    pass_by : passes c w R ≡ PassBy (reached_lines c) (reached_kinds c) (row c w R)
    unfolding passes PassBy
    pass_by = refl

    pass_part : passes p w R ≡ PassBy (reached_lines p) (reached_kinds p) (row p w R)
    unfolding passes PassBy
    pass_part = refl

    same_passes : passes p w R ≡ passes c w R
    same_passes =
        pass_part ∙ ap (λ (xs : List Line). PassBy xs (reached_kinds p) (row p w R)) same_lines ∙ ap (λ (ks : List ℕ). PassBy (reached_lines c) ks (row p w R)) same_kinds
        ∙ ap (λ (rows : ℕ → ℕ → Field). PassBy (reached_lines c) (reached_kinds c) rows) same_row ∙ sym pass_by

    same_count : reached_count p ≡ reached_count c
    same_count = ap (λ (ks : List ℕ). length ks) same_kinds

    same_settled : first_settled p w R ≡ first_settled c w R
    unfolding first_settled
    same_settled = ap (λ (q : ℕ → Bool). least_from q 1 (reached_count p)) same_passes ∙ ap (λ n. least_from (passes c w R) 1 n) same_count

    same_form : form_at p w R ≡ form_at c w R
    unfolding form_at
    same_form = ap (λ (rows : ℕ → ℕ → Field). λ s a j. weigh c.kinds (λ k. rows s k j) a) same_row

    SinceBy : (ℕ → Bool) → (ℕ → ℕ → Field) → ℕ → ℕ → ℕ
    SinceBy q rows s k = elim (q k) [ true ↦ least_from (λ t. agree (below c.kinds) (rows t k) (rows s k)) 1 s | false ↦ 0 ]

    since_by : since_at c w R ≡ SinceBy (reached c) (row c w R)
    unfolding since_at SinceBy
    since_by = refl

    since_part : since_at p w R ≡ SinceBy (reached p) (row p w R)
    unfolding since_at SinceBy
    since_part = refl

    same_since : since_at p w R ≡ since_at c w R
    same_since = since_part ∙ ap (λ (q : ℕ → Bool). SinceBy q (row p w R)) same_reached ∙ ap (SinceBy (reached c)) same_row ∙ sym since_by

    same_parting : (a b : Field) → parting_stage p w R a b ≡ parting_stage c w R a b
    unfolding parting_stage
    same_parting a b = ap (λ n. least_from (λ s. not (R s a b)) 0 (suc n)) same_count

    same_rounds : (s : ℕ) (a b : Field) → rounds_at p w s a b ≡ rounds_at c w s a b
    unfolding rounds_at
    same_rounds s a b = ap (λ (xs : List Line). rounds_for (min (norm_by c w a) (norm_by c w b)) (gain_of c.kinds w xs) s) same_lines

  Verdicts : (ℕ → ℕ) → Field → Field → ℕ → ℕ → (ℕ → ℕ) → Verdict
  Verdicts w a b s n rounds = elim (leb s n) [ true ↦ different s (rounds s) | false ↦ same ]

  verdict_by : (m : Sense) (d : Card) (w : ℕ → ℕ) (a b : Field) → verdict_in m d w a b ≡ Verdicts w a b (parting_stage d w (stage_in m d w) a b) (reached_count d) (λ s. rounds_at d w s a b)
  unfolding verdict_in Verdicts
  verdict_by m d w a b = refl

  same_verdict : (m : Sense) (w : ℕ → ℕ) (a b : Field) → verdict_in m p w a b ≡ verdict_in m c w a b
  same_verdict m w a b =
      verdict_by m p w a b
      ∙ ap (λ s. Verdicts w a b s (reached_count p) (λ q. rounds_at p w q a b)) (ap (λ (R : ℕ → Field → Field → Bool). parting_stage p w R a b) (same_stage m w) ∙ same_parting w (stage_in m c w) a b)
      ∙ ap (λ n. Verdicts w a b (parting_stage c w (stage_in m c w) a b) n (λ q. rounds_at p w q a b)) (same_count w (stage_in m c w))
      ∙ ap (λ (f : ℕ → ℕ). Verdicts w a b (parting_stage c w (stage_in m c w) a b) (reached_count c) f) (fun_ext (λ q. same_rounds w (stage_in m c w) q a b))
      ∙ sym (verdict_by m c w a b)

  -- Of the norms, and so of the answers.
  module _ {A : Type 0} (f : Card → (ℕ → ℕ) → (ℕ → Field → Field → Bool) → A) (each : (w : ℕ → ℕ) (R : ℕ → Field → Field → Bool) → f p w R ≡ f c w R) where
    same_answer : (m : Sense) → f p (kind_norm p) (stage_in m p (kind_norm p)) ≡ f c (kind_norm c) (stage_in m c (kind_norm c))
    same_answer m = ap (λ (w : ℕ → ℕ). f p w (stage_in m p w)) same_norm ∙ ap (f p (kind_norm c)) (same_stage m (kind_norm c)) ∙ each (kind_norm c) (stage_in m c (kind_norm c))

  all_parts : Parts c
  all_parts = record {
    reached_iff = λ k. (to_card k, to_part k);
    norms = same_norm;
    stage = same_answer first_settled same_settled;
    stage_rows = λ m s. same_answer (λ d w R. row d w R s) (λ w R. ap (λ (x : ℕ → ℕ → Field). x s) (same_row w R)) m;
    rows = same_answer (λ d w R. row d w R (first_settled d w R)) (λ w R. ap (row p w R) (same_settled w R) ∙ ap (λ (x : ℕ → ℕ → Field). x (first_settled c w R)) (same_row w R));
    stage_sinces = λ m s. same_answer (λ d w R. since_at d w R s) (λ w R. ap (λ (x : ℕ → ℕ → ℕ). x s) (same_since w R)) m;
    sinces = same_answer (λ d w R. since_at d w R (first_settled d w R)) (λ w R. ap (since_at p w R) (same_settled w R) ∙ ap (λ (x : ℕ → ℕ → ℕ). x (first_settled c w R)) (same_since w R));
    forms = same_answer (λ d w R. form_at d w R (first_settled d w R)) (λ w R. ap (form_at p w R) (same_settled w R) ∙ ap (λ (x : ℕ → Field → Field). x (first_settled c w R)) (same_form w R));
    verdicts = λ m a b. ap (λ (w : ℕ → ℕ). verdict_in m p w a b) same_norm ∙ same_verdict m (kind_norm c) a b;
  }

-- Of a sheet that passes 1 to 8: by the lines of the reached part alone, each reached kind has its norm, and a kind that is out has none.
pub part_norms : (s : List ℕ) → first_of (sheet_checks s) ≡ clear → card_norm (part (card_of s)) ≡ kind_norm (card_of s)
part_norms s e = fun_ext (part_norm (card_of s) (tame s e))

pub parts : (s : List ℕ) → first_of (sheet_checks s) ≡ clear → Parts (card_of s)
parts s e = all_parts (card_of s) (tame s e)

pub part_reached : (s : List ℕ) → first_of (sheet_checks s) ≡ clear → reached (part (card_of s)) ≡ reached (card_of s)
part_reached s e = same_reached (card_of s) (tame s e)
