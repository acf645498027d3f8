-- The list call's answer, from what the reading, the measuring and the writing answer. Assumes nothing.
use Rattle.std.specs.Prelude.{Result, Ok, Err, ⊤}
use Prim.Native.Nat.{ℕ, ◌≤◌, ◌<◌}
use mathlib.Core.List.{List, [], ◌∷◌, ◌++◌}
use mathlib.Core.Bool.{Bool, true, false, cond}
use mathlib.Core.Path.{◌≡◌, refl, ap, subst, ◌∙◌}
use native.Mathlib.Omega.{arith}
use lib.ListN.{length, take, drop}
use borrow.Author.Tests.{le-leb, lt-leb}
use Rattle.record.specs.Base.{Str}
use Rattle.record.specs.Scalars.{Scalar, scalars_of, built_in, built_in_rows}
use Rattle.record.specs.Fill.{fronted}
use Rattle.record.specs.Refusals.{refusal_number, side_number}
use Rattle.record.specs.Reading.{Rec, rec, schema_of}
use Rattle.record.specs.Read.{Exact, Read}
use Rattle.record.specs.Write.{Puts}
use Rattle.record.specs.declared.refusal.Refusal.{Refusal}
use Rattle.record.specs.declared.refusal.Side.{Side}
use Rattle.record.specs.declared.refusal.Side.TheVariants.{Current, Released}
use Rattle.record.proofs.ScalarLaws.{built_in-rows}
use Rattle.record.proofs.WriterLaws.{puts-exact, puts-front}
use Rattle.layout.specs.Listing.{list_of}
use Rattle.layout.specs.Answer.{refusal_of, text_or, list_answer, list, Answered}
use Rattle.layout.specs.declared.answer.Answer as D
use Rattle.layout.proofs.Readable.{reading-refused, reading-read, read_short}

-- a text that is written, measured first or known to fit -----------------------------------------------------------------

-- nothing can be put where there is no room
none-put : (xs : Str) → length xs ≡ 0 → xs ≡ []
none-put [] e = refl
none-put (x ∷ xs) e = absurd (omega arith)

-- the text at the front of a buffer that has room for it
fits-written : (out after text : Str) (len r : ℕ) → len ≡ length text → len ≤ length out → Puts out 0 text after r
    → Answered out after (text_or (length out) 0 text) (record { number = 0; side = 0; place = 0; len = len })
unfolding text_or
fits-written out after text len r e h w =
    rw (le-leb (length text) (length out) (omega arith)) (record { number = refl; side = refl; place = refl; len = e; buffer = puts-front w (omega arith) })

pub text-put : (out after text : Str) (len most : ℕ) → Puts out 0 text after len → len ≤ most → len ≤ 1099511627776 → most ≤ length out
    → Answered out after (text_or (length out) 0 text) (record { number = 0; side = 0; place = 0; len = len })
text-put out after text len most w a b h = let e = puts-exact w (omega arith) in fits-written out after text len len (omega arith) (omega arith) w

module _ (out mid text : Str) (len : ℕ) (m : Puts (take 0 out) 0 text mid len) (k : len ≤ 1099511627776) where
  as_before : mid ++ drop 0 out ≡ out
  as_before = ap (λ (x : Str). x ++ out) (none-put mid m.long)

  measured : len ≡ length text
  measured = let e = puts-exact m (omega arith) in omega arith

  pub text-no-room : length (mid ++ drop 0 out) < len → Answered out (mid ++ drop 0 out) (text_or (length out) 0 text) (record { number = 10; side = 0; place = 0; len = len })
  unfolding text_or fronted
  text-no-room h =
      let e = measured in
      let l = ap length as_before in
      rw (lt-leb (length text) (length out) (omega arith)) (record { number = refl; side = refl; place = refl; len = e; buffer = as_before })

  pub text-written : (after : Str) (r : ℕ) → len ≤ length (mid ++ drop 0 out) → Puts (mid ++ drop 0 out) 0 text after r
      → Answered out after (text_or (length out) 0 text) (record { number = 0; side = 0; place = 0; len = len })
  text-written after r h w =
      let l = ap length as_before in
      fits-written out after text len r measured (omega arith) (subst (λ (x : Str). Puts x 0 text after r) as_before w)

pub refused-is : (side : Side) (x : Refusal) (at n m : ℕ) → n ≡ refusal_number x → m ≡ side_number side
    → (out : Str) → Answered out out (refusal_of side x at) (record { number = n; side = m; place = at; len = 0 })
unfolding refusal_of fronted
refused-is side x at n m a b out = record { number = a; side = b; place = refl; len = refl; buffer = refl }

-- the call ----------------------------------------------------------------------------------------------------------------

module _ (side : Side) (s p rows : Str) (o : Result ⊤ (Refusal × ℕ)) (e : rows ≡ built_in_rows) (h : Read side (rec s p (scalars_of rows)) o) where
  pub list-refused : (out : Str) (x : Refusal) (at : ℕ) (r : D.Answer) → o ≡ Err (x, at) → ((a : Str) → Answered a a (refusal_of side x at) r)
      → Answered out out (list (length out) side (rec s p built_in)) r
  unfolding list list_answer
  list-refused out x at r k a = rw (reading-refused side s p rows o e h x at k) (a out)

  pub list-premise : o ≡ Ok tt → (length s ≤ 32768) × Exact (rec s p (scalars_of rows))
  list-premise k = (read_short side s p rows o e h k, h.exact k)

  pub list-readable : (out after : Str) (r : D.Answer) → o ≡ Ok tt → Answered out after (text_or (length out) 0 (list_of (schema_of (rec s p (scalars_of rows))))) r
      → Answered out after (list (length out) side (rec s p built_in)) r
  unfolding list list_answer
  list-readable out after r k a =
      rw (reading-read side s p rows o e h k)
      (subst (λ (w : List Scalar). Answered out after (text_or (length out) 0 (list_of (schema_of (rec s p w)))) r) (ap scalars_of e ∙ built_in-rows) a)

module _ (out after : Str) (n : ℕ) (r : Rec) (a : D.Answer) (b : Bool) where
  pub list-released : b ≡ true → Answered out after (list n Released r) a → Answered out after (list n (cond b Released Current) r) a
  list-released e h = rw e h

  pub list-current : b ≡ false → Answered out after (list n Current r) a → Answered out after (list n (cond b Released Current) r) a
  list-current e h = rw e h
