-- What a verdict says that is no violation. Assumes nothing.
use Rattle.std.specs.Prelude.{Option, Some, None}
use mathlib.Core.Path.{◌≡◌, refl, sym, ◌∙◌, ap}
use mathlib.Core.List.Memᴰ
use mathlib.Core.List.{List, [], ◌∷◌, Memᴰ}
use mathlib.Core.Bool.{Bool, true, false, false≢true}
use Prim.Native.Nat.{ℕ}
use native.Mathlib.Omega.{arith}
use Rattle.record.specs.Base.{Str}
use Rattle.definition.specs.Verdicts.{Word, Verdict, pass, stop}
use Rattle.definition.specs.Pass.{◌then◌, ensure, each, on_found, empty}

pub stop≢pass : {w : Word} {m : Str} → stop w m ≡ pass → ⊥
stop≢pass e = let z : ◌≡◌ {A = ℕ} 0 1 = cc in omega arith

pub then-pass : (v w : Verdict) → (v then w) ≡ pass → (v ≡ pass) × (w ≡ pass)
unfolding ◌then◌
then-pass pass w h = (refl, h)
then-pass (stop n m) w h = absurd (stop≢pass h)

pub ensured : (b : Bool) (w : Word) (m : Str) → ensure b (stop w m) ≡ pass → b ≡ true
unfolding ensure
ensured true w m h = refl
ensured false w m h = absurd (stop≢pass h)

pub ensure-false : (b : Bool) (v : Verdict) → b ≡ false → ensure b v ≡ pass → v ≡ pass
unfolding ensure
ensure-false true v e h = absurd (false≢true (sym e))
ensure-false false v e h = h

module _ {A : Type 0} where
  pub each-pass : (f : A → Verdict) (l : List A) → each f l ≡ pass → {x : A} → Memᴰ x l → f x ≡ pass
  unfolding each
  each-pass f [] h m = absurd (Memᴰ.not-nil m)
  each-pass f (y ∷ ys) h (Memᴰ.head e) = ap f e ∙ (then-pass (f y) (each f ys) h).0
  each-pass f (y ∷ ys) h (Memᴰ.tail m) = each-pass f ys (then-pass (f y) (each f ys) h).1 m

  pub found-pass : (o : Option A) (v : Verdict) (f : A → Verdict) → (v ≡ pass → ⊥) → on_found o v f ≡ pass → (a : A) × (o ≡ Some a) × (f a ≡ pass)
  unfolding on_found
  found-pass None v f n h = absurd (n h)
  found-pass (Some a) v f n h = (a, refl, h)

  pub found-stop : (o : Option A) (w : Word) (m : Str) (f : A → Verdict) → on_found o (stop w m) f ≡ pass → (a : A) × (o ≡ Some a) × (f a ≡ pass)
  found-stop o w m f h = found-pass o (stop w m) f stop≢pass h

  pub on_some : (o : Option A) (v : Verdict) (f : A → Verdict) {a : A} → o ≡ Some a → on_found o v f ≡ pass → f a ≡ pass
  unfolding on_found
  on_some o v f e h = rw e at h

  -- what would be a violation wherever it is found is not there
  pub none_found : (o : Option A) (w : A → Word) (m : A → Str) → on_found o pass (λ a. stop (w a) (m a)) ≡ pass → o ≡ None
  unfolding on_found
  none_found None w m h = refl
  none_found (Some a) w m h = absurd (stop≢pass h)

  -- two ways of not being found, each with its verdict
  pub never : (o : Option A) (v w : Word) (s : Str) (f : A → Str) → on_found o (stop v s) (λ a. stop w (f a)) ≡ pass → ⊥
  unfolding on_found
  never None v w s f h = stop≢pass h
  never (Some a) v w s f h = stop≢pass h

  pub not-empty : (l : List A) {x : A} → Memᴰ x l → empty l ≡ false
  unfolding empty
  not-empty [] m = absurd (Memᴰ.not-nil m)
  not-empty (y ∷ ys) m = refl

  pub empty-nil : (l : List A) → empty l ≡ true → l ≡ []
  unfolding empty
  empty-nil [] h = refl
  empty-nil (x ∷ xs) h = absurd (false≢true h)
