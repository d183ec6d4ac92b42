-- The loops over the kinds, from the last down: the kinds not yet passed are the first i of the list.
use mathlib.Core.List.{List, [], ◌∷◌, reverse, reverse-append, Memᴰ}
use mathlib.Core.Path.{◌≡◌, refl, sym, ◌∙◌, ap, fun_ext}
use Prim.Native.Nat.{ℕ, zero, suc, ◌+◌, ◌-◌, ◌≤◌, ◌<◌, ◌^◌}
use native.Mathlib.Decide.{ℕ_discrete}
use native.Mathlib.Omega.{arith}
use lib.ListN.{length, get_or, take, set, replicate, length-take, length-set, length-reverse}
use lib.Seq.{take-suc, take-length, get_or-set_same, get_or-set_other}
use Rattle.model.specs.Field.{Field, unit, at}
use Rattle.model.specs.Limits.{most_kinds, most_tokens}
use Rattle.model.specs.Shelf.{entry, listed, number_in, field_in}
use Rattle.theory.proofs.Field.{unit_same, unit_other}
use Rattle.theory.proofs.Listing.{total, Once, listed_total}
use Rattle.theory.proofs.Entries.{entry_next, entry_empty, entry_none}
use Rattle.theory.proofs.Numbering.{number_has, number_kind, number_end, field_none, field_left, field_more}
use Rattle.theory.proofs.Shelves.{entries_fit}
use Rattle.shelf.specs.Kinds.{InOrder}

module _ (kinds : List ℕ) where
  -- The first i kinds, the last of them first.
  abbrev pub front : ℕ → List ℕ
  front i = reverse (take i kinds)

  pub front_next : (i : ℕ) → i < length kinds → front (suc i) ≡ get_or kinds i 0 ∷ front i
  front_next i h = ap reverse (take-suc kinds i 0 h) ∙ reverse-append (take i kinds) (get_or kinds i 0 ∷ [])

  pub front_all : front (length kinds) ≡ reverse kinds
  front_all = ap reverse (take-length kinds)

  pub front_many : (i : ℕ) → i ≤ length kinds → length (front i) ≡ i
  front_many i h = length-reverse (take i kinds) ∙ omega (arith, length-take i kinds)

  front_mem : (i : ℕ) → i ≤ length kinds → (k : ℕ) → Memᴰ k (front i) → (j : ℕ) × (j < i) × (k ≡ get_or kinds j 0)
  front_mem zero h k m = elim m [ ]
  front_mem (suc i) h k m = go (rw (front_next i (omega arith)) at m) (front_mem i (omega arith) k)
    where
      go : Memᴰ k (get_or kinds i 0 ∷ front i) → (Memᴰ k (front i) → (j : ℕ) × (j < i) × (k ≡ get_or kinds j 0)) → (j : ℕ) × (j < suc i) × (k ≡ get_or kinds j 0)
      go (Memᴰ.head e) f = (i, omega arith, e)
      go (Memᴰ.tail q) f = let x = f q in (x.0, omega (arith, x.1), x.2)

  front_once : InOrder kinds → (i : ℕ) → i ≤ length kinds → Once (front i)
  unfolding Once
  front_once sorted zero h = tt
  front_once sorted (suc i) h =
      rw (front_next i (omega arith))
      ((λ m. let x = front_mem i (omega arith) (get_or kinds i 0) m in omega (arith, x.2, sorted.rising x.0 i x.1 (omega arith))), front_once sorted i (omega arith))

-- Field to number: the number so far, and that of the tokens left among the kinds left, are the number sought.
module _ (kinds : List ℕ) (a : Field) (size : ℕ) where
  pub record Numbered (number left i : ℕ) : Type 0 where
    pub kinds_left : i ≤ length kinds
    pub few : left ≤ most_tokens
    pub tokens_left : total (front kinds i) a ≡ left
    pub sum : number + number_in (front kinds i) left a ≡ number_in (reverse kinds) size a

  pub numbered_start : InOrder kinds → size ≤ most_tokens → Memᴰ a (listed (reverse kinds) size) → Numbered 0 size (length kinds)
  numbered_start sorted h m = record {
    kinds_left = omega arith;
    few = h;
    tokens_left = rw (front_all kinds) (listed_total (reverse kinds) size a (rw (front_all kinds) at (front_once kinds sorted (length kinds) (omega arith))) m);
    sum = rw (front_all kinds) (omega arith);
  }

  -- The count of the last kind left is among the tokens left; what it passes over brings the loop to the kind before.
  pub numbered_next : InOrder kinds → (number left i fewer : ℕ) → Numbered number left i → 0 < i
      → let count = a (get_or kinds (i - 1) 0) in
      (count ≤ left) × (fewer + entry (i - 1 + 1) (left - count) ≡ entry (i - 1 + 1) left → Numbered (number + fewer) (left - count) (i - 1))
  unfolding total
  numbered_next sorted number left zero fewer H h = absurd (omega arith)
  numbered_next sorted number left (suc j) fewer H h = rw (y, z) (omega (arith, tokens_are), next)
    where
      z : suc j - 1 ≡ j
      z = omega arith

      y : suc j - 1 + 1 ≡ suc j
      y = omega arith

      k : ℕ
      k = get_or kinds j 0

      tokens_are : a k + total (front kinds j) a ≡ left
      tokens_are = ap (λ (ks : List ℕ). total ks a) (sym (front_next kinds j (omega (arith, H.kinds_left)))) ∙ H.tokens_left

      once : Once (k ∷ front kinds j)
      once = rw (front_next kinds j (omega (arith, H.kinds_left))) at (front_once kinds sorted (suc j) H.kinds_left)

      next : fewer + entry (suc j) (left - a k) ≡ entry (suc j) left → Numbered (number + fewer) (left - a k) j
      next e =
          let m : length (front kinds j) ≡ j = front_many kinds j (omega (arith, H.kinds_left)) in
          let n : number_in (front kinds (suc j)) left a ≡ number_in (k ∷ front kinds j) left a = ap (λ (ks : List ℕ). number_in ks left a) (front_next kinds j (omega (arith, H.kinds_left))) in
          let step = number_kind k (front kinds j) once left a tokens_are in
          record {
            kinds_left = omega (arith, H.kinds_left);
            few = omega (arith, H.few);
            tokens_left = omega (arith, tokens_are);
            sum = omega (arith, rw m at step, n, H.sum);
          }

  pub numbered_end : (number left : ℕ) → Numbered number left 0 → number ≡ number_in (reverse kinds) size a
  unfolding total
  numbered_end number left H = let z : left ≡ 0 = sym H.tokens_left in omega (arith, rw z at H.sum, number_end a)

  -- 64 bits hold the number of a field, and so every number on the way to it.
  pub numbered_fits : InOrder kinds → size ≤ most_tokens → Memᴰ a (listed (reverse kinds) size) → number_in (reverse kinds) size a < 2 ^ 64
  numbered_fits sorted h m =
      let e : length (reverse kinds) ≡ length kinds = length-reverse kinds in
      let o : Once (reverse kinds) = rw (front_all kinds) at (front_once kinds sorted (length kinds) (omega arith)) in
      let u = (number_has (reverse kinds) size o a (listed_total (reverse kinds) size a o m)).0 in
      omega (arith, rw e at u, entries_fit (length kinds) size sorted.many h)

-- Number to field: the counts so far, and the field of what is left, are the field sought.
module _ (kinds : List ℕ) (size number : ℕ) where
  pub record Found (counts : List ℕ) (i left rest : ℕ) : Type 0 where
    pub kinds_left : i ≤ length kinds
    pub under : rest < entry i left
    pub room : length counts ≡ most_kinds
    pub few : (k : ℕ) → get_or counts k 0 + left ≤ size
    pub sum : (k : ℕ) → get_or counts k 0 + field_in (front kinds i) left rest k ≡ field_in (reverse kinds) size number k

  pub found_start : number < entry (length kinds) size → Found (replicate 32 0) (length kinds) size number
  found_start h = record {
    kinds_left = omega arith;
    under = h;
    room = refl;
    few = λ k. omega (arith, zeros 32 k);
    sum = λ k. rw (front_all kinds) (omega (arith, zeros 32 k));
  }
    where
      zeros : (m k : ℕ) → ◌≡◌ {A = ℕ} (get_or (replicate m 0) k 0) 0
      zeros zero k = refl
      zeros (suc m) zero = refl
      zeros (suc m) (suc k) = zeros m k

  module _ (counts : List ℕ) (i left rest : ℕ) (H : Found counts i left rest) (h : 0 < left) where
    -- Where a token is left there is a kind left.
    pub found_kind : 0 < i
    found_kind = go i H.under
      where
        go : (i : ℕ) → rest < entry i left → 0 < i
        go zero l = absurd (omega (arith, entry_empty left h))
        go (suc i) l = omega arith

    -- None of the last kind left.
    pub found_none : rest < entry (i - 1) left → Found counts (i - 1) left rest
    found_none l = record { kinds_left = omega (arith, H.kinds_left); under = l; room = H.room; few = H.few; sum = λ k. rw (← same) (H.sum k) }
      where
        same : field_in (front kinds i) left rest ≡ field_in (front kinds (i - 1)) left rest
        same = go i H.kinds_left found_kind l
          where
            go : (i : ℕ) → i ≤ length kinds → 0 < i → rest < entry (i - 1) left → field_in (front kinds i) left rest ≡ field_in (front kinds (i - 1)) left rest
            go zero m p l = absurd (omega arith)
            go (suc j) m p l =
                let z : suc j - 1 ≡ j = omega arith in
                let n : length (front kinds j) ≡ j = front_many kinds j (omega arith) in
                rw z (ap (λ (ks : List ℕ). field_in ks left rest) (front_next kinds j (omega arith)) ∙ field_left (get_or kinds j 0) (front kinds j) left rest (rw n (rw z at l)))

    -- One of it, and the entry of the kinds before it less.
    pub found_one : InOrder kinds → ¬ (rest < entry (i - 1) left)
        → Found (set counts (get_or kinds (i - 1) 0) (get_or counts (get_or kinds (i - 1) 0) 0 + 1)) i (left - 1) (rest - entry (i - 1) left)
    found_one sorted l = record {
      kinds_left = H.kinds_left;
      under = one.0;
      room = length-set counts kind (get_or counts kind 0 + 1) ∙ H.room;
      few = λ k. few k (ℕ_discrete k kind);
      sum = λ k. sum k (ℕ_discrete k kind);
    }
      where
        kind : ℕ
        kind = get_or kinds (i - 1) 0

        inside : kind < length counts
        inside = omega (arith, H.room, H.kinds_left, found_kind, sorted.under (i - 1) (omega (arith, H.kinds_left, found_kind)))

        one : (rest - entry (i - 1) left < entry i (left - 1)) × ((k : ℕ) → field_in (front kinds i) left rest k ≡ field_in (front kinds i) (left - 1) (rest - entry (i - 1) left) k + unit kind k)
        one = go i left H.kinds_left found_kind h H.under l
          where
            go : (i left : ℕ) → i ≤ length kinds → 0 < i → 0 < left → rest < entry i left → ¬ (rest < entry (i - 1) left)
                → (rest - entry (i - 1) left < entry i (left - 1))
                × ((k : ℕ) → field_in (front kinds i) left rest k ≡ field_in (front kinds i) (left - 1) (rest - entry (i - 1) left) k + unit (get_or kinds (i - 1) 0) k)
            go zero left m p q u l = absurd (omega arith)
            go (suc j) zero m p q u l = absurd (omega arith)
            go (suc j) (suc t) m p q u l =
                let z : suc j - 1 ≡ j = omega arith in
                let y : suc t - 1 ≡ t = omega arith in
                let n : length (front kinds j) ≡ j = front_many kinds j (omega arith) in
                let e : front kinds (suc j) ≡ get_or kinds j 0 ∷ front kinds j = front_next kinds j (omega arith) in
                let x : rest - entry j (suc t) < entry (suc j) t = omega (arith, entry_next j t, rw z at l) in
                let w : entry j (suc t) + (rest - entry j (suc t)) ≡ rest = omega (arith, rw z at l) in
                let f = field_more (get_or kinds j 0) (front kinds j) t (rest - entry j (suc t)) (rw n x) in
                rw (z, y, e) (x, λ k. ap (λ (g : Field). g k) (rw w at (rw n at f)))

        few : (k : ℕ) → Dec (k ≡ kind) → get_or (set counts kind (get_or counts kind 0 + 1)) k 0 + (left - 1) ≤ size
        few k (yes e) = rw e (omega (arith, get_or-set_same counts kind (get_or counts kind 0 + 1) 0 inside, H.few kind))
        few k (no d) = omega (arith, get_or-set_other counts kind k (get_or counts kind 0 + 1) 0 d, H.few k)

        sum : (k : ℕ) → Dec (k ≡ kind)
            → get_or (set counts kind (get_or counts kind 0 + 1)) k 0 + field_in (front kinds i) (left - 1) (rest - entry (i - 1) left) k ≡ field_in (reverse kinds) size number k
        sum k (yes e) = rw e (omega (arith, get_or-set_same counts kind (get_or counts kind 0 + 1) 0 inside, one.1 kind, unit_same kind, H.sum kind))
        sum k (no d) = omega (arith, get_or-set_other counts kind k (get_or counts kind 0 + 1) 0 d, one.1 k, unit_other kind k d, H.sum k)

  pub found_end : (counts : List ℕ) (i rest : ℕ) → Found counts i 0 rest → at counts ≡ field_in (reverse kinds) size number
  found_end counts i rest H =
      let z : rest ≡ 0 = omega (arith, H.under, entry_none i) in
      fun_ext (λ k. omega (arith, rw z at (H.sum k), ap (λ (f : Field). f k) (field_none (front kinds i))))
