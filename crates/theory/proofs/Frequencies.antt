-- How common each answer is, of a field of an accepted sheet: stages are nested, so that the counts come from how many fields each stage relates to it.
use mathlib.Core.Bool.{Bool, true}
use mathlib.Core.List.{List, Memᴰ}
use mathlib.Core.Logic.{◌↔◌}
use mathlib.Core.Path.{◌≡◌, refl, sym, ◌∙◌, ap, fun_ext}
use Prim.Native.Nat.{ℕ, zero, suc, ◌+◌, ◌≤◌, ◌<◌}
use native.Mathlib.Decide.{dec_lt}
use native.Mathlib.Omega.{arith}
use lib.Dec.{eqb}
use lib.ListN.{length, get_or}
use Rattle.model.specs.Finite.{keep, list_from, below, sum}
use Rattle.model.specs.Sense.{plain}
use Rattle.model.specs.Field.{Field, none, at, agree}
use Rattle.model.specs.Card.{Card, On, reached_count}
use Rattle.model.specs.Norm.{kind_norm, norm}
use Rattle.model.specs.Stage.{stage_in}
use Rattle.model.specs.Base.{settled_stage, stage_form_in, form_at}
use Rattle.model.specs.Limits.{most_kinds}
use Rattle.model.specs.Shelf.{entry, shelf, last_first}
use Rattle.model.specs.Sheet.{kind_count, card_of, field_of}
use Rattle.model.specs.Refusal.{Accepted}
use Rattle.model.specs.Answer.{Verdict, same, different, verdict_in, verdict_place, judged_at, frequencies}
use Rattle.theory.specs.Expansion.{Bisimilar}
use Rattle.theory.specs.Terms.{OfKinds, StageIn}
use Rattle.theory.specs.Shelves.{Precedes}
use Rattle.theory.specs.Frequencies.{OfSize, Frequencies, related_to}
use Rattle.theory.proofs.Field.{weigh_some}
use Rattle.theory.proofs.Normed.{Normed, Tidy}
use Rattle.theory.proofs.Stages.{Stage}
use Rattle.theory.proofs.Consequences.{Parts, settled_stays, stage_down}
use Rattle.theory.proofs.Exec.{Tells, tells_map, tells_eq, keep_on, on_keep}
use Rattle.theory.proofs.Lists.{get_d_from, get_d_past, below_mem}
use Rattle.theory.proofs.Order.{rises_at, rises_keep, precedes_one, listed_rises}
use Rattle.theory.proofs.Numbering.{tells_same, tells_agree}
use Rattle.theory.proofs.Counting.{count, one_parts, count_same, count_parts, count_all, count_most}
use Rattle.theory.proofs.Senses.{tidy, zeroth, tells_in, same_iff, different_parts, parts_verdict}
use Rattle.theory.proofs.Sheets.{sheet_clear, sheet_reaches, under_kinds, some_kind, certified, field_kinds}
use Rattle.theory.proofs.Limits.{accepted_limits}
use Rattle.theory.proofs.Shelves.{kinds_down, shelves}
use Rattle.theory.proofs.Verdicts
use Rattle.theory.proofs.Verdicts.{L, field_tidy, kinds_is, bisimilar}
use Rattle.theory.proofs.Settling.{row_kinds}
use Rattle.theory.proofs.Program.{stage_forms}

-- The verdict at a place: same at 0, different with stage q at q + 1.
place_same : (x : Verdict) → verdict_place x ≡ 0 → x ≡ same
unfolding verdict_place
place_same same e = refl
place_same (different q r) e = absurd (omega arith)

place_different : (x : Verdict) (q : ℕ) → verdict_place x ≡ suc q → (r : ℕ) × (x ≡ different q r)
unfolding verdict_place
place_different same q e = absurd (omega arith)
place_different (different d r) q e = let z : d ≡ q = omega arith in (r, ap (λ n. different n r) z)

-- Of the field i of an accepted sheet.
module _ (s : List ℕ) (ok : Accepted s) (i : ℕ) where
  abbrev c : Card
  c = card_of s

  abbrev w : ℕ → ℕ
  w = kind_norm (card_of s)

  abbrev a : Field
  a = field_of s i

  -- The card with its norms, as the theory has it.
  abbrev N : Normed
  N = Verdicts.N plain s ok

  -- The field is of reached kinds.
  a_kinds : OfKinds c a
  a_kinds = field_kinds s (sheet_clear s ok) i

  -- The place of the verdict on another field.
  abbrev place : Field → ℕ
  place b = verdict_place (verdict_in plain c w a b)

  -- Stage q relates them, and the test of it.
  abbrev At : ℕ → Field → Type 0
  At q b = Stage N q a b

  abbrev related : ℕ → Field → Bool
  related q = stage_in plain c w q a

  tells : (q : ℕ) (b : Field) → Tells (related q b) (At q b)
  tells q b = tells_in plain c w (certified s ok) q a b

  -- The test that every stage before q relates them.
  before : ℕ → Field → Bool
  before zero = λ _. true
  before (suc q) = related q

  tells_before : (q : ℕ) (b : Field) → Tells (before q b) ((r : ℕ) → r < q → At r b)
  unfolding before
  tells_before zero b = record { fact = λ _ r h. absurd (omega arith); test = λ _. tt }
  tells_before (suc q) b = tells_map (λ h r l. stage_down N q r a b (omega arith) h) (λ f. f q (omega arith)) (tells q b)

  module _ (b : Field) (v : OfKinds c b) where
    b_tidy : Tidy N b
    b_tidy = tidy plain c w (certified s ok) b v

    -- The two are the same, at place 0, where the settled stage relates them.
    place_zero : (place b ≡ 0) ↔ At (settled_stage c) b
    unfolding verdict_place
    place_zero =
        let x = same_iff plain c w (certified s ok) (settled_stage c) (L plain s ok).most (L plain s ok).settled a b (field_tidy plain s ok i) b_tidy in
        ((λ e. x.0 (place_same _ e)), (λ h. ap verdict_place (x.1 h)))

    -- What a verdict with a stage says.
    parts : (q r : ℕ) → verdict_in plain c w a b ≡ different q r → (q ≤ reached_count c) × Parts N q a b
    parts q r e =
        let x = different_parts plain c w (certified s ok) (settled_stage c) (L plain s ok).most (L plain s ok).settled a b (field_tidy plain s ok i) b_tidy q r e in
        (x.0, x.3)

    -- They part at stage q, at place q + 1, where it is the first stage that does not relate them.
    place_next : (q : ℕ) → (place b ≡ suc q) ↔ Parts N q a b
    unfolding verdict_place
    place_next q = (
      (λ e. let x = place_different _ q e in (parts q x.0 x.1).1),
      (λ p. ap verdict_place (parts_verdict plain c w (certified s ok) (settled_stage c) (L plain s ok).most (L plain s ok).settled a b (field_tidy plain s ok i) b_tidy q p)),
    )

    -- There are n + 2 places.
    place_most : place b < kind_count s + 2
    unfolding verdict_place
    place_most = go (verdict_in plain c w a b) refl
      where
        go : (x : Verdict) → verdict_in plain c w a b ≡ x → verdict_place x < kind_count s + 2
        go same e = omega arith
        go (different q r) e = omega (arith, (parts q r e).0, (sheet_reaches s).count_most, kinds_is plain s ok)

    -- What the settled stage relates every stage does.
    stays : At (settled_stage c) b → (q : ℕ) → At q b
    stays h q = settled_stays N (settled_stage c) (L plain s ok).settled q a b (field_tidy plain s ok i) b_tidy h

  -- The form of a field at stage q + 1; it has tokens of the kinds of the sheet alone.
  abbrev form : ℕ → Field → Field
  form q = stage_form_in plain c (suc q)

  form_under : (q : ℕ) (b : Field) → OfKinds c b → (j : ℕ) → 0 < form q b j → j < most_kinds
  unfolding form_at
  form_under q b v j h =
      let k = weigh_some c.kinds _ b h in
      omega (arith, under_kinds s j (row_kinds plain c (certified s ok) q k.0 (v k.0 k.2) j k.3), (accepted_limits s ok).kinds.1)

  -- So forms that agree on the first 32 kinds are equal.
  forms_same : (q : ℕ) (b : Field) → OfKinds c b → ((j : ℕ) → Memᴰ j (below most_kinds) → form q b j ≡ form q a j) → form q a ≡ form q b
  forms_same q b v f = fun_ext (λ j. go j (dec_lt 0 (form q a j)) (dec_lt 0 (form q b j)))
    where
      go : (j : ℕ) → Dec (0 < form q a j) → Dec (0 < form q b j) → form q a j ≡ form q b j
      go j (yes h) _ = sym (f j (below_mem most_kinds j (form_under q a a_kinds j h)))
      go j (no h) (yes k) = sym (f j (below_mem most_kinds j (form_under q b v j k)))
      go j (no h) (no k) = omega arith

  module _ (t : ℕ) where
    -- The fields of the size are of reached kinds.
    listed_kinds : (b : Field) → Memᴰ b (shelf c t) → OfKinds c b
    listed_kinds b m = (((shelves s t).fields b).0 m).0

    -- Those that part at stage q, and those that it relates, are those that every stage before relates.
    part_at : (q : ℕ) → length (judged_at c a t (suc q)) + related_to c a t q ≡ count (before q) (shelf c t)
    unfolding judged_at related_to
    part_at q = count_parts (λ b. eqb (place b) (suc q)) (related q) (before q) (shelf c t) (λ b m.
        let p = place_next b (listed_kinds b m) q in
        one_parts (eqb (place b) (suc q)) (related q b) (before q b)
        (λ x. let y = p.0 ((tells_eq (place b) (suc q)).fact x) in ((tells_before q b).test y.1, λ z. y.0 ((tells q b).fact z)))
        (λ x n. (tells_eq (place b) (suc q)).test (p.1 ((λ h. n ((tells q b).test h)), (tells_before q b).fact x)))
        (λ x. (tells_before q b).test (λ r l. stage_down N q r a b (omega arith) ((tells q b).fact x))))

    -- At stage 0 that is every field of the size, at a later stage those that the stage before relates.
    pub related_first : length (judged_at c a t 1) + related_to c a t 0 ≡ entry (reached_count c) t
    unfolding before
    related_first = part_at 0 ∙ count_all (shelf c t) ∙ (shelves s t).many

    pub related_next : (q : ℕ) → length (judged_at c a t (suc (suc q))) + related_to c a t (suc q) ≡ related_to c a t q
    unfolding before related_to
    related_next q = part_at (suc q)

    -- From the settled stage on nothing changes.
    pub related_settled : (q : ℕ) → settled_stage c ≤ q → related_to c a t q ≡ related_to c a t (settled_stage c)
    unfolding related_to
    related_settled q h = count_same (related q) (related (settled_stage c)) (shelf c t) (λ b m.
        tells_same (related q b) (related (settled_stage c) b) (tells q b) (tells (settled_stage c) b)
        (stage_down N q (settled_stage c) a b h) (λ x. stays b (listed_kinds b m) x q))

    -- The same are those that the settled stage relates, and so every later one.
    settled_same : length (judged_at c a t 0) ≡ related_to c a t (settled_stage c)
    unfolding judged_at related_to
    settled_same = count_same (λ b. eqb (place b) 0) (related (settled_stage c)) (shelf c t) (λ b m.
        let z = place_zero b (listed_kinds b m) in
        tells_same (eqb (place b) 0) (related (settled_stage c) b) (tells_eq (place b) 0) (tells (settled_stage c) b) z.0 z.1)

    pub related_same : (q : ℕ) → settled_stage c ≤ q → length (judged_at c a t 0) ≡ related_to c a t q
    related_same q h = settled_same ∙ sym (related_settled q h)

    -- As a program tests it: equal norms at stage 0, equal forms at each later stage.
    pub related_norms : related_to c a t 0 ≡ length (keep (λ b. eqb (norm c b) (norm c a)) (shelf c t))
    unfolding related_to
    related_norms = count_same (related 0) (λ b. eqb (norm c b) (norm c a)) (shelf c t) (λ b m.
        let z = zeroth plain c w (certified s ok) a b in
        tells_same (related 0 b) (eqb (norm c b) (norm c a)) (tells 0 b) (tells_eq (norm c b) (norm c a)) (λ h. sym (z.0 h)) (λ e. z.1 (sym e)))

    pub related_forms : (q : ℕ)
        → related_to c a t (suc q) ≡ length (keep (λ b. agree (below most_kinds) (stage_form_in plain c (suc q) b) (stage_form_in plain c (suc q) a)) (shelf c t))
    unfolding related_to
    related_forms q = count_same (related (suc q)) (λ b. agree (below most_kinds) (form q b) (form q a)) (shelf c t) (λ b m.
        let v = listed_kinds b m in
        let z = stage_forms plain c w (certified s ok) q a b a_kinds v in
        tells_same (related (suc q) b) (agree (below most_kinds) (form q b) (form q a))
        (record { fact = z.0; test = z.1 }) (tells_agree (below most_kinds) (form q b) (form q a))
        (λ e j _. ap (λ (f : Field). f j) (sym e)) (forms_same q b v))

    -- The fields that are counted at a place.
    judged_iff : (p : ℕ) (b : Field) → Memᴰ b (judged_at c a t p) ↔ (OfSize c t b × (place b ≡ p))
    unfolding judged_at
    judged_iff p b =
        let f = (shelves s t).fields b in (
          (λ m. let x = keep_on (λ y. eqb (place y) p) (λ y. place y ≡ p) (λ y. tells_eq (place y) p) (shelf c t) b m in (f.0 x.0, x.1)),
          (λ x. on_keep (λ y. eqb (place y) p) (λ y. place y ≡ p) (λ y. tells_eq (place y) p) (shelf c t) b (f.1 x.0) x.1),
        )

    -- The same are the bisimilar ones, and those that part at a stage are told by the stages.
    judged_same {ℓ} : (b : Field) → Memᴰ b (judged_at c a t 0) ↔ (OfSize c t b × Bisimilar {ℓ} (On c) a b)
    judged_same b = (
      (λ m. let x = (judged_iff 0 b).0 m in (x.0, (bisimilar_to x.0.0).0 ((place_zero b x.0.0).0 x.1))),
      (λ x. (judged_iff 0 b).1 (x.0, (place_zero b x.0.0).1 ((bisimilar_to x.0.0).1 x.1))),
    )
      where
        bisimilar_to : OfKinds c b → At (settled_stage c) b ↔ Bisimilar {ℓ} (On c) a b
        bisimilar_to v = bisimilar plain s ok a b (field_tidy plain s ok i) (b_tidy b v)

    judged_parted : (q : ℕ) (b : Field) → Memᴰ b (judged_at c a t (suc q))
        ↔ (OfSize c t b × (¬ StageIn plain c q a b) × ((r : ℕ) → r < q → StageIn plain c r a b))
    judged_parted q b = (
      (λ m.
          let x = (judged_iff (suc q) b).0 m in
          let y = (place_next b x.0.0 q).0 x.1 in
          (x.0, (λ z. y.0 ((tells q b).fact z)), λ r l. (tells r b).test (y.1 r l))),
      (λ x. (judged_iff (suc q) b).1 (x.0, (place_next b x.0.0 q).1 ((λ z. x.1 ((tells q b).test z)), λ r l. (tells r b).fact (x.2 r l)))),
    )

    -- The listing rises, and so does what is kept of it: no field is kept twice.
    judged_once : (p x y : ℕ) → x < y → y < length (judged_at c a t p) → ¬ (get_or (judged_at c a t p) x none ≡ get_or (judged_at c a t p) y none)
    unfolding judged_at
    judged_once p x y h l e =
        let r = rises_at (Precedes (last_first c)) none (judged_at c a t p) x y
        (rises_keep (Precedes (last_first c)) (λ b. eqb (place b) p) (shelf c t) (listed_rises (last_first c) t (kinds_down c).once)) h l in
        let z = rw e at r in
        precedes_one (last_first c) _ _ z z

    -- What is listed.
    counted : (p : ℕ) → p < kind_count s + 2 → at (frequencies s i t) p ≡ length (judged_at c a t p)
    unfolding frequencies
    counted p h = let z : 0 + p ≡ p = omega arith in rw z at (get_d_from (λ q. length (judged_at c a t q)) 0 (kind_count s + 2) p 0 h)

    -- The counts from place q + 2 on are what the stages from q on lose.
    sum_lost : (q m : ℕ) → sum (list_from (λ p. length (judged_at c a t p)) (suc (suc q)) m) + related_to c a t (q + m) ≡ related_to c a t q
    unfolding sum list_from
    sum_lost q zero = let z : q + 0 ≡ q = omega arith in omega (arith, ap (related_to c a t) z)
    sum_lost q (suc m) =
        let z : q + suc m ≡ suc q + m = omega arith in
        rw z (omega (arith, related_next q, sum_lost (suc q) m))

    -- So the counts add up to all fields of the size: the settled stage is at most n.
    adds : sum (frequencies s i t) ≡ entry (reached_count c) t
    unfolding frequencies sum list_from
    adds =
        let z : kind_count s + 2 ≡ suc (suc (kind_count s)) = omega arith in
        let y : 0 + kind_count s ≡ kind_count s = omega arith in
        ap (λ n. sum (list_from (λ p. length (judged_at c a t p)) 0 n)) z
        ∙ omega (arith, related_first, related_same (kind_count s) most, rw y at (sum_lost 0 (kind_count s)))
      where
        most : settled_stage c ≤ kind_count s
        most = omega (arith, (L plain s ok).most, some_kind s ok, (sheet_reaches s).count_most, kinds_is plain s ok)

    -- Past the settled stage nothing is lost.
    judged_past : (q : ℕ) → settled_stage c < q → length (judged_at c a t (suc q)) ≡ 0
    judged_past zero h = absurd (omega arith)
    judged_past (suc q) h = omega (arith, related_next q, related_settled q (omega arith), related_settled (suc q) (omega arith))

    -- No count is over the number of fields of the size.
    small : (p : ℕ) → at (frequencies s i t) p ≤ entry (reached_count c) t
    unfolding judged_at frequencies
    small p = go (dec_lt p (kind_count s + 2))
      where
        go : Dec (p < kind_count s + 2) → at (frequencies s i t) p ≤ entry (reached_count c) t
        go (yes h) = omega (arith, counted p h, count_most (λ b. eqb (place b) p) (shelf c t), (shelves s t).many)
        go (no h) = omega (arith, get_d_past (λ q. length (judged_at c a t q)) 0 (kind_count s + 2) p 0 (omega arith))

    pub frequencies_claims {ℓ} : Frequencies {ℓ} s i t
    frequencies_claims = record {
      same = judged_same;
      parted = judged_parted;
      once = judged_once;
      counted = counted;
      one_place = λ b o. (place b, place_most b o.0, λ r. ((λ m. sym ((judged_iff r b).0 m).1), (λ e. (judged_iff r b).1 (o, sym e))));
      adds = adds;
      past = judged_past;
      small = small;
    }
