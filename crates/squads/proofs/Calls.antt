-- What the call comes to: where the sheet's checks refuse, where its own do, and what an accepted sheet gives.
use mathlib.Core.Bool.{Bool, true, false}
use mathlib.Core.List.{List, []}
use mathlib.Core.Path.{◌≡◌, sym, ◌∙◌, ap}
use Prim.Native.Nat.{ℕ, ◌≤◌, ◌<◌}
use native.Mathlib.Omega.{arith}
use lib.Dec.{eqb}
use lib.ListN.{length}
use Rattle.model.specs.Sense.{plain}
use Rattle.model.specs.Finite.{list_from}
use Rattle.model.specs.Field.{at, tokens}
use Rattle.model.specs.Squads.{times_in, remainder}
use Rattle.model.specs.Sheet.{kind_count, field_count, field_of}
use Rattle.model.specs.Refusal.{refusal, first_of, accept_checks, Accepted, squads_checks, check}
use Rattle.model.specs.Answer.{refused, given, prime_form, squad_count, remainder_form, squads_of, written}
use Rattle.theory.proofs.Exec.{tells_eq}
use Rattle.theory.proofs.Checks.{first_left, first_right, first_here, first_later, from_some, not_none}
use Rattle.theory.proofs.Answers.{demand1}
use Rattle.theory.proofs.Squads.{form_some}
use Rattle.theory.proofs.Told.{gives}
use Rattle.validation.proofs.Checking.{less_stops}
use Rattle.validation.proofs.FieldNumbers.{numbers_pass, fields_refused}
use Rattle.validation.specs.Fields.{field_checks}

-- The test for tokens, as it is read in the code.
module _ (n : ℕ) (b : Bool) (e : b ≡ eqb n 0) where
  pub without_tokens : b ≡ true → n ≡ 0
  without_tokens t = (tells_eq n 0).fact (rw (sym e ∙ t) tt)

  pub with_tokens : b ≡ false → 0 < n
  with_tokens t = from_some n (rw (sym e ∙ t) (λ x. x))

module _ (s : List ℕ) (i j : ℕ) (buffer : List ℕ) where
  -- What a refusal comes to, as a contract asks for it.
  abbrev pub Refuses : ℕ → ℕ → Type 0
  Refuses k p = (refused k p ≡ (squads_of s i j buffer).answer) × (buffer ≡ (squads_of s i j buffer).lent)

  refuses : (k p : ℕ) → first_of (squads_checks s i j (length buffer)) ≡ refusal k p → Refuses k p
  refuses k p e = gives ((demand1 s).squads_refused i j buffer k p e)

  -- The checks of the sheet refuse, or those of the two field numbers.
  pub sheet_refuses : (k p : ℕ) → first_of (accept_checks s) ≡ refusal k p → Refuses k p
  unfolding squads_checks
  sheet_refuses k p e = refuses k p (first_left (accept_checks s) _ k p e)

  pub fields_refuse : Accepted s → (k p : ℕ) → first_of (field_checks (field_count s) i j) ≡ refusal k p → Refuses k p
  unfolding Accepted squads_checks
  fields_refuse ok k p e = refuses k p (first_right (accept_checks s) _ ok ∙ fields_refused (field_count s) i j _ k p e)

  -- The call's own: 17 and 12.
  module _ (ok : Accepted s) (h : i < field_count s) (l : j < field_count s) where
    abbrev size : ℕ
    size = tokens (kind_count s) (field_of s j)

    pub empty_squad : size ≡ 0 → Refuses 17 1
    unfolding Accepted squads_checks
    empty_squad m =
        refuses 17 1
        (first_right (accept_checks s) _ ok ∙ numbers_pass _ (field_count s) i j h l
        ∙ first_here (check 17 1 (eqb size 0)) _ ((tells_eq size 0).test m))

    module _ (m : 0 < size) where
      pub buffer_short : length buffer < kind_count s → Refuses 12 0
      unfolding Accepted squads_checks
      buffer_short q =
          refuses 12 0
          (first_right (accept_checks s) _ ok ∙ numbers_pass _ (field_count s) i j h l
          ∙ first_later (check 17 1 (eqb size 0)) _ (not_none size m) ∙ less_stops 12 0 [] (length buffer) (kind_count s) q)

      -- The number, and the remainder written.
      pub counted : (count : ℕ) (after : List ℕ) → kind_count s ≤ length buffer → count ≡ squad_count s i j → after ≡ written (remainder_form s i j) buffer
          → (given count ≡ (squads_of s i j buffer).answer) × (after ≡ (squads_of s i j buffer).lent)
      counted count after q e d =
          let g = gives ((demand1 s).squads_given i j buffer (((demand1 s).squads_taken i j (length buffer)).1 ((demand1 s).accepted.0 ok, h, l, m, q))) in
          (ap given e ∙ g.0, d ∙ g.1)

-- Two lists of counts that are the prime forms, divided.
module _ (s : List ℕ) (i j : ℕ) (whole squad : List ℕ) (w : whole ≡ prime_form s i) (q : squad ≡ prime_form s j) where
  whole_long : length whole ≡ kind_count s
  whole_long = ap length w ∙ (demand1 s).form_size plain i

  squad_long : length squad ≡ kind_count s
  squad_long = ap length q ∙ (demand1 s).form_size plain j

  -- They can be: they are as long as each other, the squad's are not all 0, and the buffer has room.
  pub can_divide : Accepted s → 0 < tokens (kind_count s) (field_of s j) → (room : ℕ) → kind_count s ≤ room
      → (length whole ≡ length squad) × ((0 < tokens (length squad) (at squad)) × (length whole ≤ room))
  can_divide ok full room h = (whole_long ∙ sym squad_long, (rw (squad_long, q) (form_some s ok j full), omega (arith, whole_long)))

  pub divides : (count : ℕ) (after buffer : List ℕ) → count ≡ times_in (length whole) (at whole) (at squad)
      → after ≡ written (list_from (remainder (length whole) (at whole) (at squad)) 0 (length whole)) buffer
      → (count ≡ squad_count s i j) × (after ≡ written (remainder_form s i j) buffer)
  unfolding squad_count remainder_form
  divides count after buffer e d = (rw (whole_long, w, q) at e, rw (whole_long, w, q) at d)
