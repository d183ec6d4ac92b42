-- What the page's call comes to, from what the page function answered.
use mathlib.Core.Bool.{Bool, true, false}
use mathlib.Core.List.{List}
use mathlib.Core.Path.{◌≡◌, refl, ap}
use Prim.Native.Nat.{ℕ, ◌^◌, ◌≤◌, ◌<◌}
use native.Mathlib.Omega.{arith}
use lib.Dec.{ltb}
use lib.ListN.{length}
use Rattle.model.specs.Answer.{refused, given, Lent, written}
use Rattle.model.specs.Page.{printed}
use Rattle.page.specs.Writing.{write_page_of}
use Rattle.arrays.specs.Reply.{code_of, refusing, reply_of, laid_out}
use Rattle.exports.specs.Calls.{length_values, page_call}
use Rattle.arrays.proofs.Replies.{reply_refuses, reply_short, reply_gives}

module _ (s buffer : List ℕ) where
  -- By whether the buffer is too short.
  abbrev PageBy : Bool → Lent ℕ
  PageBy b =
      elim b as (λ _. Lent ℕ) [
        | true ↦ record { answer = refused 12 0; lent = buffer }
        | false ↦ record { answer = given (length (printed s)); lent = written (printed s) buffer }
      ]

  refused_by : (b : Bool) (k p : ℕ) → (PageBy b).answer ≡ refused k p → ((PageBy b).lent ≡ buffer) × (code_of k p < 2 ^ 32)
  refused_by true k p e = let a : 12 ≡ k = cc in let d : 0 ≡ p = cc in (refl, omega arith)
  refused_by false k p e = let z : ◌≡◌ {A = ℕ} 0 1 = cc in absurd (omega arith)

  pub page_kept : (k p : ℕ) → (write_page_of s buffer).answer ≡ refused k p → (write_page_of s buffer).lent ≡ buffer
  unfolding write_page_of
  page_kept k p e = (refused_by (ltb (length buffer) (length (printed s))) k p e).0

  pub page_fits : (k p : ℕ) → (write_page_of s buffer).answer ≡ refused k p → code_of k p < 2 ^ 32
  unfolding write_page_of
  page_fits k p e = (refused_by (ltb (length buffer) (length (printed s))) k p e).1

  module _ (array : List ℕ) where
    pub page_refuses : (k p : ℕ) → (write_page_of s buffer).answer ≡ refused k p → page_call s buffer array ≡ refusing k p buffer array
    unfolding page_call
    page_refuses k p e = reply_refuses buffer (write_page_of s buffer).lent array _ k p (ap (laid_out length_values) e)

    pub page_gives : (t : ℕ) → (write_page_of s buffer).answer ≡ given t → 1 ≤ length array
        → page_call s buffer array ≡ record { code = 0; lent = (write_page_of s buffer).lent; values = written (length_values t) array }
    unfolding page_call
    page_gives t e h = reply_gives buffer (write_page_of s buffer).lent array (length_values t) _ (ap (laid_out length_values) e) h

    -- An answer array with no room is refused just as a short buffer is.
    pub page_short : length array < 1 → page_call s buffer array ≡ refusing 12 0 buffer array
    unfolding page_call write_page_of
    page_short h = go (ltb (length buffer) (length (printed s)))
      where
        go : (b : Bool) → reply_of (laid_out length_values (PageBy b).answer) buffer (PageBy b).lent array ≡ refusing 12 0 buffer array
        go true = reply_refuses buffer buffer array (refused 12 0) 12 0 refl
        go false = reply_short buffer (written (printed s) buffer) array (length_values (length (printed s))) (given (length_values (length (printed s)))) refl h
