-- Demands 2 and 3 in each sense, of two fields of an accepted sheet.
use mathlib.Core.List.{List, []}
use mathlib.Core.Logic.{◌↔◌}
use mathlib.Core.Path.{◌≡◌, refl, sym, ◌∙◌, ap, fun_ext}
use Prim.Native.Nat.{ℕ, ◌+◌, ◌<◌}
use native.Mathlib.Decide.{dec_lt}
use native.Mathlib.Omega.{arith}
use lib.ListN.{get_or}
use Rattle.model.specs.Finite.{list_from}
use Rattle.model.specs.Field.{Field, unit, at}
use Rattle.model.specs.Card.{Line, Card, On, Reached, fire}
use Rattle.model.specs.Norm.{IsNorm, kind_norm, norm}
use Rattle.theory.specs.Expansion.{Expands, BisimilarIn}
use Rattle.model.specs.Sense.{Sense}
use Rattle.model.specs.Stage.{equal_in, stage_in}
use Rattle.model.specs.Base.{gain, first_settled, form_at, rounds_at}
use Rattle.theory.specs.FinerGame.{AlwaysIn}
use Rattle.theory.specs.Terms.{Earlier, Before, PrimeIn, OfKinds, OnReached}
use Rattle.model.specs.Sheet.{kind_count, field_count, card_of, field_of}
use Rattle.model.specs.Refusal.{Finding, clear, refusal, first_of, Accepted, compare_checks}
use Rattle.model.specs.Answer.{Answer, refused, given, same, different, verdict_in, compare_in, prime_form_in}
use Rattle.theory.specs.Demands.{Demand2, Demand3}
use Rattle.theory.proofs.Moves.{expands_map}
use Rattle.theory.proofs.Normed.{Normed, Tidy}
use Rattle.theory.proofs.Stages.{Stage, level, level_cong, stage_cong}
use Rattle.theory.proofs.Rank.{rank, Within}
use Rattle.theory.proofs.Base.{Base, form, form_within, form_rel, unit_some, Prime as BasePrime}
use Rattle.theory.proofs.Unique.{form_iff}
use Rattle.theory.proofs.Settle.{tidy_within, tidy_fire}
use Rattle.theory.proofs.Decide.{Finite, dec_stage}
use Rattle.theory.proofs.Count.{past, past_whole, level_low, level_base}
use Rattle.theory.proofs.Consequences.{Parts}
use Rattle.theory.proofs.Further.{atom_prime}
use Rattle.theory.proofs.Lists.{get_d_from, get_d_past}
use Rattle.theory.proofs.Reach.{all_expands}
use Rattle.theory.proofs.Certified.{Found, under, live}
use Rattle.theory.proofs.Fewest.{norms}
use Rattle.theory.proofs.Rows.{Least, finite, order_iff, form_is}
use Rattle.theory.proofs.Senses.{weight_of, normed_in, tidy, of_tidy, tells_start, tells_in, settled, settled_bisimilar, settled_always, same_iff, different_iff, different_parts, parts_verdict}
use Rattle.theory.proofs.FinerPlays.{parts_in, parted_parting_in, parting_not_in, strategy_holds_in, plays_all_in}
use Rattle.theory.proofs.Gain.{is_gain}
use Rattle.model.proofs.Plain as model
use Rattle.theory.proofs.Sheets.{clear_cons, clear_nil, not_small, field_kinds, call_checks, sheet_clear, tame, some_kind, certified}

pub given_clear : {A : Type 0} (f : Finding) (x : A) → f ≡ clear → (elim f as (λ _. Answer A) [ clear ↦ given x | refusal k p ↦ refused k p ]) ≡ given x
given_clear clear x e = refl
given_clear (refusal k p) x e = let z : ◌≡◌ {A = ℕ} 0 1 = cc in absurd (omega arith)

pub given_same : {A : Type 0} (x y : A) → given x ≡ given y → x ≡ y
given_same x y e = cc

pub compare_clear : (s : List ℕ) → Accepted s → (i j : ℕ) → i < field_count s → j < field_count s → first_of (compare_checks s i j) ≡ clear
unfolding compare_checks
compare_clear s ok i j h k =
    call_checks s ok _ ∙ clear_cons 11 0 _ _ (not_small i (field_count s) h) (clear_cons 11 1 _ [] (not_small j (field_count s) k) clear_nil)

pub compare_is : (m : Sense) (s : List ℕ) → Accepted s → (i j : ℕ) → i < field_count s → j < field_count s
    → compare_in m s i j ≡ given (verdict_in m (card_of s) (kind_norm (card_of s)) (field_of s i) (field_of s j))
unfolding compare_in
compare_is m s ok i j h k = given_clear (first_of (compare_checks s i j)) _ (compare_clear s ok i j h k)

module _ (m : Sense) (s : List ℕ) (ok : Accepted s) where
  abbrev pub c : Card
  c = card_of s

  abbrev pub w : ℕ → ℕ
  w = kind_norm (card_of s)

  abbrev pub N : Normed
  N = normed_in m (card_of s) (kind_norm (card_of s)) (certified s ok)

  pub some : 0 < (card_of s).kinds
  unfolding card_of
  some = some_kind s ok

  abbrev pub t : ℕ
  t = first_settled c w (stage_in m c w)

  pub L : Least c w (weight_of m) (certified s ok) (equal_in m c w) (tells_start m c w (certified s ok)) t
  L = settled m c w (certified s ok)

  abbrev pub field : ℕ → Field
  field i = field_of s i

  pub field_tidy : (i : ℕ) → Tidy N (field i)
  field_tidy i = tidy m c w (certified s ok) (field i) (field_kinds s (sheet_clear s ok) i)

  -- The base at the settled stage q + 1.
  abbrev pub q : ℕ
  q = L.before

  abbrev pub fin : Finite N.on
  fin = finite c w (weight_of m) (certified s ok) (equal_in m c w) (tells_start m c w (certified s ok))

  abbrev pub B : ℕ
  B = past N fin

  abbrev pub R : Field → Field → Type 0
  R = level N q

  abbrev pub D : Base N R B
  D = level_base N fin q

  pub to_stage : (a b : Field) → R a b → Stage N t a b
  unfolding Stage
  to_stage a b p = rw L.is p

  pub from_stage : (a b : Field) → Stage N t a b → R a b
  unfolding Stage
  from_stage a b p = rw L.is at p

  field_within : (i : ℕ) → Within N B (field i)
  field_within i = tidy_within N B (past_whole N fin) (field i) (field_tidy i)

  -- What is written is the form of the field.
  pub form_of : ℕ → Field
  form_of i = form N R B D (field i)

  pub written_is : (i : ℕ) → form_at c w (stage_in m c w) t (field i) ≡ form_of i
  unfolding form_of stage_in
  written_is i = rw L.is (form_is c w (weight_of m) (certified s ok) (equal_in m c w) (tells_start m c w (certified s ok)) q (field i) (field_kinds s (sheet_clear s ok) i))

  prime_form_is : (i : ℕ) → prime_form_in m s i ≡ list_from (form_of i) 0 (kind_count s)
  unfolding prime_form_in
  prime_form_is i = ap (λ (f : Field). list_from f 0 (kind_count s)) (written_is i)

  pub form_parts : (i : ℕ) → Within N B (form_of i) × ((k : ℕ) → 0 < form_of i k → D.row k ≡ unit k)
  unfolding form_of
  form_parts i = form_within N R B D B (field i) (omega arith) (field_within i)

  pub kinds_is : (card_of s).kinds ≡ kind_count s
  unfolding card_of
  kinds_is = refl

  pub at_form : (i : ℕ) → at (prime_form_in m s i) ≡ form_of i
  at_form i = fun_ext (λ k. ap (λ (l : List ℕ). get_or l k 0) (prime_form_is i) ∙ each k (dec_lt k (kind_count s)) (dec_lt 0 (form_of i k)))
    where
      zero_of : (n : ℕ) → ¬ (0 < n) → 0 ≡ n
      zero_of n h = omega arith

      each : (k : ℕ) → Dec (k < kind_count s) → Dec (0 < form_of i k) → get_or (list_from (form_of i) 0 (kind_count s)) k 0 ≡ form_of i k
      each k (yes h) p = let z : 0 + k ≡ k = omega arith in get_d_from (form_of i) 0 (kind_count s) k 0 h ∙ ap (form_of i) z
      each k (no h) (yes p) = absurd (omega (arith, ((form_parts i).0 k p).0, kinds_is))
      each k (no h) (no p) = get_d_past (form_of i) 0 (kind_count s) k 0 (omega arith) ∙ zero_of (form_of i k) p

  form_tidy : (i : ℕ) → Tidy N (form_of i)
  form_tidy i k h = let u = (form_parts i).0 k h in (u.0, u.1)

  pub bisimilar {ℓ} : (a b : Field) → Tidy N a → Tidy N b → Stage N t a b ↔ BisimilarIn {ℓ} m c a b
  bisimilar a b u v = settled_bisimilar m c w (certified s ok) t L.most L.settled a b u v

  pub field_form : (i : ℕ) → R (field i) (form_of i)
  unfolding form_of
  field_form i = form_rel N R B D (level_cong N q) (level_low N fin q) (field i) (field_within i)

  -- Prime at the settled stage is prime.
  pub prime_iff {ℓ} : (k : ℕ) → Reached c k → BasePrime N R k ↔ PrimeIn {ℓ} m c k
  prime_iff k h = (
    (λ p. (h, λ a f x. p a (within a f) (from_stage (unit k) a ((bisimilar (unit k) a unit_tidy (within_tidy a (within a f))).1 x)))),
    (λ p a f x. p.1 a (before a f) ((bisimilar (unit k) a unit_tidy (within_tidy a f)).0 (to_stage (unit k) a x))),
  )
    where
      F : Found c w
      F = certified s ok

      order : (j : ℕ) → j < c.kinds → Earlier c j k ↔ (rank N j < rank N k)
      order j i = order_iff c w (weight_of m) F (equal_in m c w) (tells_start m c w F) k j (under c w F k h) i

      within : (a : Field) → Before c k a → Within N (rank N k) a
      within a f j x = let v = f j x in let u = live c w F j v.0 in (u.0, u.1, (order j u.0).0 v.1)

      before : (a : Field) → Within N (rank N k) a → Before c k a
      before a f j x = let v = f j x in (F.out j v.1, (order j v.0).1 v.2)

      unit_tidy : Tidy N (unit k)
      unit_tidy j x = rw (unit_some k j x) (live c w F k h)

      within_tidy : (a : Field) → Within N (rank N k) a → Tidy N a
      within_tidy a f j x = let v = f j x in (v.0, v.1)

  pub form_prime {ℓ} : (i k : ℕ) → 0 < form_of i k → PrimeIn {ℓ} m c k
  form_prime i k h =
      let u = (form_parts i).0 k h in
      (prime_iff k ((certified s ok).out k u.1)).0 (atom_prime N R B (level_cong N q) (level_low N fin q) D k u.0 u.1 u.2 ((form_parts i).1 k h))

  module _ (i j : ℕ) (hi : i < field_count s) (hj : j < field_count s) where
    abbrev a : Field
    a = field_of s i

    abbrev b : Field
    b = field_of s j

    pub same_stage : (compare_in m s i j ≡ given same) ↔ Stage N t a b
    same_stage =
        let x = same_iff m c w (certified s ok) t L.most L.settled a b (field_tidy i) (field_tidy j) in
        let e = compare_is m s ok i j hi hj in
        ((λ p. x.0 (given_same _ _ (sym e ∙ p))), (λ p. e ∙ ap given (x.1 p)))

    different_stage : ((d : ℕ) × (r : ℕ) × (compare_in m s i j ≡ given (different d r))) ↔ (¬ Stage N t a b)
    different_stage =
        let x = different_iff m c w (certified s ok) t L.most L.settled a b (field_tidy i) (field_tidy j) in
        let e = compare_is m s ok i j hi hj in
        ((λ p. x.0 (p.0, p.1, given_same _ _ (sym e ∙ p.2))), (λ p. let y = x.1 p in (y.0, y.1, e ∙ ap given y.2)))

    -- The stage reported is the least that does not relate the two, and the rounds are those of the stage.
    pub parts_iff : (d : ℕ) → ((r : ℕ) × (compare_in m s i j ≡ given (different d r))) ↔ Parts N d a b
    parts_iff d =
        let e = compare_is m s ok i j hi hj in
        let F = certified s ok in (
          (λ p. (different_parts m c w F t L.most L.settled a b (field_tidy i) (field_tidy j) d p.0 (given_same _ _ (sym e ∙ p.1))).3),
          (λ p. (rounds_at c w d a b, e ∙ ap given (parts_verdict m c w F t L.most L.settled a b (field_tidy i) (field_tidy j) d p))),
        )

    pub rounds_are : (d r : ℕ) → compare_in m s i j ≡ given (different d r) → r ≡ rounds_at c w d a b
    rounds_are d r p =
        (different_parts m c w (certified s ok) t L.most L.settled a b (field_tidy i) (field_tidy j) d r (given_same _ _ (sym (compare_is m s ok i j hi hj) ∙ p))).1

    forms_iff : R a b ↔ (form_of i ≡ form_of j)
    unfolding form_of
    forms_iff = form_iff N R B D (level_cong N q) (level_low N fin q) a b (field_within i) (field_within j)

    pub demand2 {ℓ} : Demand2 {ℓ} m s i j
    demand2 =
        let x = bisimilar a b (field_tidy i) (field_tidy j) in
        record {
          same_means = ((λ p. x.0 (same_stage.0 p)), (λ p. same_stage.1 (x.1 p)));
          different_means = ((λ p y. different_stage.0 p (x.1 y)), (λ n. different_stage.1 (λ p. n (x.0 p))));
          form_primes = λ k h. form_prime i k (rw (ap (λ (f : Field). f k) (at_form i)) at h);
          form_bisimilar = rw (at_form i) ((bisimilar a (form_of i) (field_tidy i) (form_tidy i)).0 (to_stage a (form_of i) (field_form i)));
          form_equal = (
            (λ p. same_stage.1 (to_stage a b (forms_iff.1 (sym (at_form i) ∙ ap at p ∙ at_form j)))),
            (λ p. prime_form_is i ∙ ap (λ (f : Field). list_from f 0 (kind_count s)) (forms_iff.0 (from_stage a b (same_stage.0 p))) ∙ sym (prime_form_is j)),
          );
        }

    always : Stage N t a b ↔ AlwaysIn m c a b
    always = settled_always m c w (certified s ok) t L.most L.settled a b (field_tidy i) (field_tidy j)

    again : (a b : Field) → OfKinds c a → OfKinds c b → AlwaysIn m c a b → Expands (On c) (AlwaysIn m c) a b
    again a b u v h =
        let F = certified s ok in
        let at_all : (x : Field) → OfKinds c x → Tidy N x = λ x f. tidy m c w F x f in
        all_expands c (AlwaysIn m c) a b u v
        (expands_map (OnReached c) (Stage N t) (AlwaysIn m c) a b
        (λ l n o _ p _ z. (settled_always m c w F t L.most L.settled _ _ (tidy_fire N l a o (at_all a u)) (tidy_fire N n b p (at_all b v))).0 z)
        (L.settled a b (at_all a u) (at_all b v) ((settled_always m c w F t L.most L.settled a b (at_all a u) (at_all b v)).1 h)))

    -- A side keeps to reached kinds, and a settled pair expands by all lines.
    kept : (l : Line) → On c l → (x : Field) → 0 < x l.kind → Tidy N x → Tidy N (fire l x)
    kept l o x h u = tidy_fire N l x (o, of_tidy m c w (certified s ok) x u l.kind h) u

    expand : (x y : Field) → Tidy N x → Tidy N y → Stage N t x y → Expands (On c) (Stage N t) x y
    expand x y u v z = all_expands c (Stage N t) x y (of_tidy m c w (certified s ok) x u) (of_tidy m c w (certified s ok) y v) (L.settled x y u v z)

    norm_is : (k : ℕ) → IsNorm c (field_of s k) (norm c (field_of s k))
    norm_is k = (norms c (tame s (sheet_clear s ok))).fields (field_of s k) (field_tidy k)

    pub demand3 : Demand3 m s i j
    unfolding rounds_at card_of
    demand3 = record {
      same_plays = λ p.
          plays_all_in m c (Stage N t) (Tidy N) kept expand (stage_cong N t).extras a b (dec_stage N fin t) (AlwaysIn m c)
          (λ x y g. (settled_always m c w (certified s ok) t L.most L.settled x y g.0 g.1).0 g.2) (field_tidy i, field_tidy j, same_stage.0 p);
      plays_same = λ f g. same_stage.1 (always.1 (λ r. strategy_holds_in m c f r [] a b g));
      parted_different = λ x. different_stage.1 (parting_not_in m c (Stage N t) (Tidy N) kept expand (stage_cong N t).extras a b x (field_tidy i) (field_tidy j));
      different_parted = λ d r e.
          let x = different_parts m c w (certified s ok) t L.most L.settled a b (field_tidy i) (field_tidy j) d r (given_same _ _ (sym (compare_is m s ok i j hi hj) ∙ e)) in
          (parted_parting_in m c r a b (parts_in m c r a b x.2), parts_in m c r a b x.2, x.2, x.0, (norm c a, norm c b, gain c, norm_is i, norm_is j, is_gain s ok, (λ z. x.1 ∙ rw z ((model.plain).rounds_none _ _)), (λ z. x.1 ∙ (model.plain).rounds_some _ _ d z)));
      different_stage = λ d r e.
          let x = different_parts m c w (certified s ok) t L.most L.settled a b (field_tidy i) (field_tidy j) d r (given_same _ _ (sym (compare_is m s ok i j hi hj) ∙ e)) in
          ((λ y. x.3.0 ((tells_in m c w (certified s ok) d a b).fact y)), (λ q h. (tells_in m c w (certified s ok) q a b).test (x.3.1 q h)));
      always_again = again;
    }
