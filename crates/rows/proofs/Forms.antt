-- The rows and the forms at a stage: what they hold, what they weigh, how large their counts are.
use mathlib.Core.Logic.{◌↔◌, ◌⊎◌, inl, inr}
use mathlib.Core.Path.{◌≡◌, sym, ◌∙◌, ap, fun_ext}
use Prim.Native.Nat.{ℕ, suc, ◌*◌, ◌≤◌, ◌<◌}
use native.Mathlib.Decide.{dec_lt}
use native.Mathlib.Nat.{mul-le-mul_left}
use native.Mathlib.Omega.{arith}
use lib.Dec.{T}
use Rattle.model.specs.Field.{Field, none, ◌⊕◌, unit, weigh}
use Rattle.model.specs.Card.{Line, Card, Reached, leads, reached}
use Rattle.model.specs.Norm.{kind_norm, norm}
use Rattle.model.specs.Sense.{Sense, plain}
use Rattle.model.specs.Stage.{equal_in, stage_in}
use Rattle.theory.specs.Stages.{Lowers}
use Rattle.model.specs.Base.{earlier, form_at, stage_row_in, stage_form_in}
use Rattle.theory.specs.Terms.{OfKinds, Earlier, Before}
use Rattle.theory.proofs.Field.{unit_same, weigh_plus, weigh_unit, weigh_part, weigh_some, weigh_weights}
use Rattle.theory.proofs.Normed.{Normed}
use Rattle.theory.proofs.Stages.{level, level_cong}
use Rattle.theory.proofs.Rank.{Within, decomp, decomp_self, low_within, rank}
use Rattle.theory.proofs.Base.{unit_some, form_within, form_rel}
use Rattle.theory.proofs.Settle.{tidy_within}
use Rattle.theory.proofs.Decide.{Finite}
use Rattle.theory.proofs.Count.{past, past_whole, level_low, level_base}
use Rattle.theory.proofs.Certified.{Found}
use Rattle.theory.proofs.Reach.{dec_tells}
use Rattle.theory.proofs.Rows.{finite, order_iff, tells_earlier}
use Rattle.theory.proofs.Senses.{weight_of, normed_in, tidy, tells_start, stages}
use Rattle.theory.proofs.Settling.{base, row_of, within, before}
use Rattle.theory.proofs.Program.{theirs, test_next, row_none, kept, kept_kinds, kept_norm, kept_form}

-- Rows count only where the field has tokens: tables that agree on the kinds that the field holds give it one form.
pub form_rows : (n : ℕ) (rows others : ℕ → Field) (a : Field) → ((k : ℕ) → k < n → 0 < a k → rows k ≡ others k)
    → (j : ℕ) → weigh n (λ k. rows k j) a ≡ weigh n (λ k. others k j) a
form_rows n rows others a h j = weigh_weights n (λ k. rows k j) (λ k. others k j) a (λ k i p. ap (λ (x : Field). x j) (h k i p))

-- A count of a kind that weighs something is no more than the whole weighs.
count_weight : (n : ℕ) (w : ℕ → ℕ) (a : Field) (k : ℕ) → k < n → 0 < w k → a k ≤ weigh n w a
count_weight n w a k h p =
    let z : 1 ≤ w k = p in
    let y : a k * 1 ≤ a k * w k = mul-le-mul_left (a k) z in
    omega (arith, weigh_part n w a k h)

none_of : (n : ℕ) → ¬ (0 < n) → n ≡ 0
none_of n h = omega arith

module _ (c : Card) (F : Found c (kind_norm c)) where
  -- A kind is reached, or it is out.
  pub reached_or_out : (k : ℕ) → Dec (Reached c k)
  reached_or_out k = dec_tells (reached c k) (record { fact = (F.reach.test_iff k).0; test = (F.reach.test_iff k).1 })

  -- The order of kinds as the test `earlier` and as a type.
  pub earlier_iff : (k j : ℕ) → k < c.kinds → j < c.kinds → T (earlier (kind_norm c) j k) ↔ Earlier c j k
  earlier_iff k j h i =
      let o = order_iff c (kind_norm c) (weight_of plain) F (equal_in plain c (kind_norm c)) (tells_start plain c (kind_norm c) F) k j h i in
      let t = tells_earlier c (kind_norm c) (weight_of plain) F (equal_in plain c (kind_norm c)) (tells_start plain c (kind_norm c) F) k j h i in
      ((λ x. o.1 (t.fact x)), (λ x. t.test (o.0 x)))

  pub earlier_not : (k : ℕ) → ¬ Earlier c k k
  earlier_not k (inl p) = omega arith
  earlier_not k (inr p) = omega (arith, p.1)

  pub earlier_trans : (i j k : ℕ) → Earlier c i j → Earlier c j k → Earlier c i k
  earlier_trans i j k (inl p) (inl r) = inl (omega arith)
  earlier_trans i j k (inl p) (inr r) = inl (omega (arith, r.0))
  earlier_trans i j k (inr p) (inl r) = inl (omega (arith, p.0))
  earlier_trans i j k (inr p) (inr r) = inr (p.0 ∙ r.0, omega (arith, p.1, r.1))

  -- What a line that lowers the norm leaves is of kinds earlier than its own, and weighs one less.
  pub lowers_before : (l : Line) → Lowers c (kind_norm c) l → Before c l.kind l.left
  lowers_before l o = before plain c F l.kind o.0.1 l.left (low_within (normed_in plain c (kind_norm c) F) l o)

  pub lowers_earlier : (k : ℕ) (l : Line) → Lowers c (kind_norm c) l → (l.kind ≡ k) ⊎ Earlier c l.kind k → Before c k l.left
  lowers_earlier k l o (inl e) = rw e at (lowers_before l o)
  lowers_earlier k l o (inr r) = λ j h. let u = lowers_before l o j h in (u.0, earlier_trans j l.kind k u.1 r)

  pub lowers_norm_is : (l : Line) → Lowers c (kind_norm c) l → suc (norm c l.left) ≡ kind_norm c l.kind
  lowers_norm_is l o = omega (arith, F.settled l o.0, o.1)

  pub left_kinds : (l : Line) → Lowers c (kind_norm c) l → OfKinds c l.left
  left_kinds l o k p = leads l o.0.0 o.0.1 p

  pub unit_kinds : (k : ℕ) → Reached c k → OfKinds c (unit k)
  unit_kinds k h j i = rw (unit_some k j i) h

  -- No count passes the norm.
  pub count_most : (a : Field) → OfKinds c a → (j : ℕ) → a j ≤ norm c a
  count_most a u j = go (dec_lt 0 (a j))
    where
      go : Dec (0 < a j) → a j ≤ norm c a
      go (yes i) = count_weight c.kinds (kind_norm c) a j (F.reach.under j (u j i)) (F.positive j (u j i))
      go (no i) = omega arith

-- Of a sense: the rows and forms of stage q + 1.
module _ (sense : Sense) (c : Card) (F : Found c (kind_norm c)) (q : ℕ) where
  abbrev N : Normed
  N = normed_in sense c (kind_norm c) F

  abbrev fin : Finite N.on
  fin = finite c (kind_norm c) (weight_of sense) F (equal_in sense c (kind_norm c)) (tells_start sense c (kind_norm c) F)

  -- A form by a table that has the stage's rows of the kinds that the field holds.
  pub form_table : (rows : ℕ → Field) (a : Field) → ((k : ℕ) → k < c.kinds → 0 < a k → rows k ≡ stage_row_in sense c (suc q) k)
      → (j : ℕ) → weigh c.kinds (λ k. rows k j) a ≡ stage_form_in sense c (suc q) a j
  unfolding form_at
  form_table rows a h j = form_rows c.kinds rows (stage_row_in sense c (suc q)) a h j

  -- The form of what a lowering line of kind k, or of an earlier kind, leaves: the rows of the kinds earlier than k are enough.
  pub form_earlier : (k : ℕ) (rows : ℕ → Field) → ((j : ℕ) → j < c.kinds → Earlier c j k → rows j ≡ stage_row_in sense c (suc q) j)
      → (l : Line) → Lowers c (kind_norm c) l → (l.kind ≡ k) ⊎ Earlier c l.kind k → (j : ℕ) → weigh c.kinds (λ i. rows i j) l.left ≡ stage_form_in sense c (suc q) l.left j
  form_earlier k rows f l o e = form_table rows l.left (λ i h p. f i h (lowers_earlier c F k l o e i p).1)

  pub form_unit : (k : ℕ) → k < c.kinds → stage_form_in sense c (suc q) (unit k) ≡ stage_row_in sense c (suc q) k
  unfolding form_at
  form_unit k h = fun_ext (λ j. weigh_unit c.kinds (λ i. stage_row_in sense c (suc q) i j) k h)

  pub form_plus : (a b : Field) → stage_form_in sense c (suc q) (a ⊕ b) ≡ stage_form_in sense c (suc q) a ⊕ stage_form_in sense c (suc q) b
  unfolding form_at
  form_plus a b = fun_ext (λ j. weigh_plus c.kinds (λ k. stage_row_in sense c (suc q) k j) a b)

  -- A product of atoms is its own form.
  pub form_self : (a : Field) → OfKinds c a → ((k : ℕ) → 0 < a k → stage_row_in sense c (suc q) k ≡ unit k) → stage_form_in sense c (suc q) a ≡ a
  unfolding form_at decomp
  form_self a u g = decomp_self N (stage_row_in sense c (suc q)) (past N fin) a (tidy_within N (past N fin) (past_whole N fin) a (tidy sense c (kind_norm c) F a u)) g

  -- The row of a reached kind is the kind itself, an atom, or a product of earlier atoms; that of any other kind is empty.
  pub row_sort : (k : ℕ) → Reached c k
      → (stage_row_in sense c (suc q) k ≡ unit k) ⊎ (Before c k (stage_row_in sense c (suc q) k) × ((j : ℕ) → 0 < stage_row_in sense c (suc q) k j → stage_row_in sense c (suc q) j ≡ unit j))
  row_sort k h = go ((base sense c F q).counts k h)
    where
      go : {A : Type 0} → ((stage_row_in sense c (suc q) k ≡ unit k) × A) ⊎ (Before c k (stage_row_in sense c (suc q) k) × ((j : ℕ) → 0 < stage_row_in sense c (suc q) k j → stage_row_in sense c (suc q) j ≡ unit j))
          → (stage_row_in sense c (suc q) k ≡ unit k) ⊎ (Before c k (stage_row_in sense c (suc q) k) × ((j : ℕ) → 0 < stage_row_in sense c (suc q) k j → stage_row_in sense c (suc q) j ≡ unit j))
      go (inl p) = inl p.0
      go (inr p) = inr p

  pub row_empty : (k : ℕ) → ¬ Reached c k → stage_row_in sense c (suc q) k ≡ none
  row_empty k n = row_none sense c (kind_norm c) F q k n

  -- A kind whose row has a token is reached.
  pub row_some : (k j : ℕ) → 0 < stage_row_in sense c (suc q) k j → Reached c k
  row_some k j i = go (reached_or_out c F k)
    where
      go : Dec (Reached c k) → Reached c k
      go (yes v) = v
      go (no n) = absurd (omega (arith, ap (λ (x : Field). x j) (row_empty k n)))

  pub row_atom : (k : ℕ) → stage_row_in sense c (suc q) k ≡ unit k → Reached c k
  row_atom k e = row_some k k (omega (arith, ap (λ (x : Field). x k) e, unit_same k))

  -- A row holds reached kinds alone, and atoms alone.
  pub row_kinds : (k : ℕ) → OfKinds c (stage_row_in sense c (suc q) k)
  row_kinds k j i = go (row_some k j i) (row_sort k (row_some k j i))
    where
      go : {A : Type 0} → Reached c k → (stage_row_in sense c (suc q) k ≡ unit k) ⊎ (Before c k (stage_row_in sense c (suc q) k) × A) → Reached c j
      go v (inl e) = rw (unit_some k j (rw (ap (λ (x : Field). x j) e) at i)) v
      go v (inr p) = (p.0 j i).0

  pub row_atoms : (k j : ℕ) → 0 < stage_row_in sense c (suc q) k j → stage_row_in sense c (suc q) j ≡ unit j
  row_atoms k j i = go (row_sort k (row_some k j i))
    where
      go : (stage_row_in sense c (suc q) k ≡ unit k) ⊎ (Before c k (stage_row_in sense c (suc q) k) × ((j : ℕ) → 0 < stage_row_in sense c (suc q) k j → stage_row_in sense c (suc q) j ≡ unit j))
          → stage_row_in sense c (suc q) j ≡ unit j
      go (inl e) = rw (unit_some k j (rw (ap (λ (x : Field). x j) e) at i)) e
      go (inr p) = p.1 j i

  -- A kind and its row have one form, the row.
  pub row_form : (k : ℕ) → stage_form_in sense c (suc q) (stage_row_in sense c (suc q) k) ≡ stage_row_in sense c (suc q) k
  row_form k = form_self (stage_row_in sense c (suc q) k) (row_kinds k) (row_atoms k)

  pub row_equal : (k : ℕ) → k < c.kinds → stage_form_in sense c (suc q) (unit k) ≡ stage_form_in sense c (suc q) (stage_row_in sense c (suc q) k)
  row_equal k h = form_unit k h ∙ sym (row_form k)

  -- The kind's own count tells whether it is an atom.
  pub row_own : (k : ℕ) → (stage_row_in sense c (suc q) k k ≡ 1) ↔ (stage_row_in sense c (suc q) k ≡ unit k)
  row_own k = ((λ e. go e (row_sort k (row_some k k (omega arith)))), (λ e. ap (λ (x : Field). x k) e ∙ unit_same k))
    where
      go : {A : Type 0} → stage_row_in sense c (suc q) k k ≡ 1 → (stage_row_in sense c (suc q) k ≡ unit k) ⊎ (Before c k (stage_row_in sense c (suc q) k) × A) → stage_row_in sense c (suc q) k ≡ unit k
      go e (inl p) = p
      go e (inr p) = absurd (earlier_not c F k (p.0 k (omega arith)).1)

  -- An atom stays one at the next stage.
  pub atom_stays : (k : ℕ) → stage_row_in sense c (suc q) k ≡ unit k → stage_row_in sense c (suc (suc q)) k ≡ unit k
  atom_stays k e = go ((base sense c F q).counts k h) ((base sense c F (suc q)).counts k h)
    where
      h : Reached c k
      h = row_atom k e

      Test : ℕ → Field → Type 0
      Test s a = T (stage_in sense c (kind_norm c) s (unit k) a)

      go : {A B C D : Type 0} → (A × ((a : Field) → Before c k a → ¬ Test (suc q) a)) ⊎ (Before c k (stage_row_in sense c (suc q) k) × B)
          → ((stage_row_in sense c (suc (suc q)) k ≡ unit k) × C) ⊎ (Before c k (stage_row_in sense c (suc (suc q)) k) × D) → stage_row_in sense c (suc (suc q)) k ≡ unit k
      go p (inl r) = r.0
      go (inl p) (inr r) =
          absurd (p.1 (stage_row_in sense c (suc (suc q)) k) r.0 (((stages sense c (kind_norm c) F).next q (unit k) (stage_row_in sense c (suc (suc q)) k) (unit_kinds c F k h) (λ j i. (r.0 j i).0)).0 ((base sense c F (suc q)).related k h)).0)
      go (inr p) (inr r) = absurd (earlier_not c F k (p.0 k (rw e (omega (arith, unit_same k)))).1)

  -- A form is a product of atoms of the field's norm, of kinds no later than the field's.
  module _ (a : Field) (u : OfKinds c a) where
    whole : Within N (past N fin) a
    whole = tidy_within N (past N fin) (past_whole N fin) a (tidy sense c (kind_norm c) F a u)

    pub form_atoms : (j : ℕ) → 0 < stage_form_in sense c (suc q) a j → Reached c j × (stage_row_in sense c (suc q) j ≡ unit j)
    form_atoms j i =
        let t = form_within N (level N q) (past N fin) (level_base N fin q) (past N fin) a (omega arith) whole in
        let p = rw (ap (λ (x : Field). x j) (theirs sense c (kind_norm c) F q a u)) at i in
        let h = F.out j (t.0 j p).1 in
        (h, row_of sense c F q j h ∙ t.1 j p)

    pub form_kinds : OfKinds c (stage_form_in sense c (suc q) a)
    form_kinds j i = (form_atoms j i).0

    pub form_norm : norm c (stage_form_in sense c (suc q) a) ≡ norm c a
    form_norm =
        ap (norm c) (theirs sense c (kind_norm c) F q a u)
        ∙ sym ((level_cong N q).norms a _ (form_rel N (level N q) (past N fin) (level_base N fin q) (level_cong N q) (level_low N fin q) a whole))

  pub form_before_is : (k : ℕ) → Reached c k → (a : Field) → Before c k a → Before c k (stage_form_in sense c (suc q) a)
  form_before_is k h a f = before sense c F k h (stage_form_in sense c (suc q) a) (λ j i.
      (form_within N (level N q) (past N fin) (level_base N fin q) (rank N k) a (omega (arith, past_whole N fin k (F.reach.under k h))) (within sense c F k h a f)).0 j
      (rw (ap (λ (x : Field). x j) (theirs sense c (kind_norm c) F q a (λ j i. (f j i).0))) at i))

  -- No count of a form passes the field's norm, and none of a row its kind's.
  pub form_count : (a : Field) (j : ℕ) → stage_form_in sense c (suc q) a j ≤ norm c a
  form_count a j =
      let b = kept sense c (kind_norm c) F a in
      let u : OfKinds c b = kept_kinds sense c (kind_norm c) F a in
      omega (arith, count_most c F (stage_form_in sense c (suc q) b) (form_kinds b u) j, form_norm b u, ap (λ (x : Field). x j) (kept_form sense c (kind_norm c) F q a), kept_norm sense c (kind_norm c) F a)

  pub row_norm : (k : ℕ) → Reached c k → norm c (stage_row_in sense c (suc q) k) ≡ kind_norm c k
  row_norm k h =
      let l = F.reach.under k h in
      ap (norm c) (sym (form_unit k l)) ∙ form_norm (unit k) (unit_kinds c F k h) ∙ weigh_unit c.kinds (kind_norm c) k l

  pub row_count : (k j : ℕ) → stage_row_in sense c (suc q) k j ≤ kind_norm c k
  row_count k j = go (dec_lt 0 (stage_row_in sense c (suc q) k j))
    where
      go : Dec (0 < stage_row_in sense c (suc q) k j) → stage_row_in sense c (suc q) k j ≤ kind_norm c k
      go (yes p) = omega (arith, count_most c F (stage_row_in sense c (suc q) k) (row_kinds k) j, row_norm k (row_some k j p))
      go (no p) = omega arith

  -- A row and a form are 0 past the kinds.
  pub row_past : (k j : ℕ) → c.kinds ≤ j → stage_row_in sense c (suc q) k j ≡ 0
  row_past k j i = go (dec_lt 0 (stage_row_in sense c (suc q) k j))
    where
      go : Dec (0 < stage_row_in sense c (suc q) k j) → stage_row_in sense c (suc q) k j ≡ 0
      go (yes p) = absurd (omega (arith, F.reach.under j (row_kinds k j p)))
      go (no p) = none_of _ p

  pub form_past : (a : Field) (j : ℕ) → c.kinds ≤ j → stage_form_in sense c (suc q) a j ≡ 0
  unfolding form_at
  form_past a j i = go (dec_lt 0 (weigh c.kinds (λ k. stage_row_in sense c (suc q) k j) a))
    where
      go : Dec (0 < weigh c.kinds (λ k. stage_row_in sense c (suc q) k j) a) → weigh c.kinds (λ k. stage_row_in sense c (suc q) k j) a ≡ 0
      go (yes p) = let t = weigh_some c.kinds (λ k. stage_row_in sense c (suc q) k j) a p in absurd (omega (arith, F.reach.under j (row_kinds t.0 j t.3)))
      go (no p) = none_of _ p

-- A later stage relates no more than an earlier one: a field and its form at the next stage have one form at this one.
module _ (sense : Sense) (c : Card) (F : Found c (kind_norm c)) (q : ℕ) where
  next_kept : (a : Field) → OfKinds c a → stage_form_in sense c (suc q) (stage_form_in sense c (suc (suc q)) a) ≡ stage_form_in sense c (suc q) a
  next_kept a u =
      let f = form_kinds sense c F (suc q) a u in
      let e = form_self sense c F (suc q) (stage_form_in sense c (suc (suc q)) a) f (λ j i. (form_atoms sense c F (suc q) a u j i).1) in
      ((test_next sense c (kind_norm c) F (stage_form_in sense c (suc (suc q)) a) a f u q).0 e).0

  pub form_next : (a : Field) → stage_form_in sense c (suc q) (stage_form_in sense c (suc (suc q)) a) ≡ stage_form_in sense c (suc q) a
  form_next a =
      let w = kind_norm c in
      ap (stage_form_in sense c (suc q)) (sym (kept_form sense c w F (suc q) a)) ∙ next_kept (kept sense c w F a) (kept_kinds sense c w F a) ∙ kept_form sense c w F q a

  pub equal_before : (a b : Field) → stage_form_in sense c (suc (suc q)) a ≡ stage_form_in sense c (suc (suc q)) b → stage_form_in sense c (suc q) a ≡ stage_form_in sense c (suc q) b
  equal_before a b e = sym (form_next a) ∙ ap (stage_form_in sense c (suc q)) e ∙ form_next b
