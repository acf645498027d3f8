-- The table of field sizes while it is filled. Assumes nothing.
use Rattle.std.specs.Prelude.{Option, Some, None}
use Prim.Native.Nat.{ℕ, ◌+◌, ◌/◌, ◌≤◌}
use mathlib.Core.List.Memᴰ
use mathlib.Core.List.{List, ◌∷◌, Memᴰ}
use mathlib.Core.Logic.{◌⊎◌, inl, inr}
use mathlib.Core.Path.{◌≡◌, refl, sym, ap, ◌∙◌}
use native.Mathlib.Omega.{arith}
use lib.ListN.{length, get_or, drop, set, length-set, get_or-eq_default}
use lib.Seq.{get_or-set_same, get_or-set_other}
use Rattle.record.specs.Base.{Str, bytes}
use Rattle.record.specs.Commands.{operands, wide, widths, width_with, width_of, field_at, step_at, commands_at}
use Rattle.record.specs.Lists.{field_of}
use Rattle.record.specs.Shapes.{shape_size, capped}
use Rattle.record.specs.Index.{Findable}
use Rattle.record.specs.Reading.{Rec, schema_of}
use Rattle.record.specs.declared.command.Cursor.{Cursor}
use Rattle.record.specs.declared.command.Command.{Command}
use Rattle.record.specs.Seek.{places_of, places_left, Standing, SoughtFrom}
use Rattle.record.specs.declared.seek.Between.{Between}
use Rattle.record.specs.declared.seek.Between.TheVariants.{Anything}
use Rattle.record.proofs.SeekLaws.{sought-stands, place-listed}
use Rattle.layout.specs.Room.{SizesRoom}
use Rattle.layout.specs.FieldSizes.{field_size, SizesFrom, SizesTable}
use Rattle.layout.proofs.Along.{place-later}

-- an entry ----------------------------------------------------------------------------------------------------------------

-- past the end 0 is read
pub none_read : (t : List ℕ) (i : ℕ) → length t ≤ i → 0 ≡ get_or t i 0
none_read t i h = sym (get_or-eq_default t 0 {n = i} h)

-- a field takes 33 bytes
pub field-wide : (s : Str) (o : Between) (from : ℕ) (g : Option (ℕ × ℕ)) (i : SoughtFrom s o 11 from g) (a k : ℕ) → g ≡ Some (a, k) → k ≡ a + 33
unfolding width_of width_with operands widths wide bytes
field-wide s o from g i a k m = (sought-stands s o 11 from g i a k m).after

-- the table while it is filled ---------------------------------------------------------------------------------------------

-- a field is still to come from a place on, or lies before it and has its entry
abbrev pub Entered : Rec → List ℕ → ℕ → ℕ → Type 0
Entered r t from at = Memᴰ at (places_of r.stream Anything 11 from) ⊎ ((at + 33 ≤ from) × (get_or t ((at + 33) / 33) 0 ≡ field_size r at))

pub record Sizing (r : Rec) (w o t : List ℕ) (from : ℕ) : Type 0 where
  pub entered : Findable r.stream r.pool w → SizesRoom r.stream o → (at : ℕ) → Memᴰ at (commands_at r.stream 0) → get_or r.stream at 0 ≡ 11 → Entered r t from at
  pub long : length t ≡ length o

pub sizing-start : (r : Rec) (w o : List ℕ) → Sizing r w o o 0
sizing-start r w o = record { entered = λ index room at m b. inl (place-listed r.stream 11 at b 0 m); long = refl }

module _ (r : Rec) (w o t : List ℕ) (from : ℕ) (z : Sizing r w o t from) (g : Option (ℕ × ℕ)) (i : SoughtFrom r.stream Anything 11 from g) where
  pub sizing-end : g ≡ None → Findable r.stream r.pool w → SizesRoom r.stream o → SizesTable r t
  sizing-end m index room = record { sized = λ at n b. go (z.entered index room at n b) }
    where
      go : {at : ℕ} → Entered r t from at → get_or t ((at + 33) / 33) 0 ≡ field_size r at
      go (inl n) = absurd (Memᴰ.not-nil (rw (i.list ∙ ap (places_left r.stream Anything 11) m) at n))
      go (inr e) = e.1

  module _ (a k : ℕ) (m : g ≡ Some (a, k)) (y : List ℕ) (d : y ≡ drop a r.stream) where
    stands : Standing r.stream 11 from a k
    stands = sought-stands r.stream Anything 11 from g i a k m

    after : k ≡ a + 33
    after = field-wide r.stream Anything from g i a k m

    size_is : (x : ℕ) → x ≡ capped (shape_size (schema_of r) (field_of r.pool (field_at y) None)) → x ≡ field_size r a
    unfolding field_size
    size_is x e = e ∙ ap (λ (v : List ℕ). capped (shape_size (schema_of r) (field_of r.pool (field_at v) None))) d

    pub sizing-field : (x : ℕ) (u : List ℕ) → (Findable r.stream r.pool w → x ≡ capped (shape_size (schema_of r) (field_of r.pool (field_at y) None))) → u ≡ set t (k / 33) x → Sizing r w o u k
    sizing-field x u e s = record { entered = λ index room at n b. go index room at (z.entered index room at n b); long = ap length s ∙ simp length-set z.long }
      where
        here : Findable r.stream r.pool w → SizesRoom r.stream o → (at : ℕ) → Memᴰ at (a ∷ places_of r.stream Anything 11 k) → Entered r u k at
        here index room at (Memᴰ.head q) =
            let b = after in
            let h = stands.within in
            let l = z.long in
            let n : (at + 33) / 33 ≡ k / 33 = ap (λ (j : ℕ). j / 33) (omega arith) in
            let v : get_or u (k / 33) 0 ≡ x = rw s (get_or-set_same t (k / 33) x 0 (omega arith)) in
            inr (omega arith, ap (λ (j : ℕ). get_or u j 0) n ∙ v ∙ size_is x (e index) ∙ ap (field_size r) (sym q))
        here index room at (Memᴰ.tail n) = inl n

        go : Findable r.stream r.pool w → SizesRoom r.stream o → (at : ℕ) → Entered r t from at → Entered r u k at
        go index room at (inl n) = here index room at (rw (i.list ∙ ap (places_left r.stream Anything 11) m) at n)
        go index room at (inr c) =
            let b = after in
            let j = stands.ahead in
            let p = c.0 in
            let ne : ((at + 33) / 33 ≡ k / 33) → ⊥ = λ q. omega arith in
            inr (omega arith, rw s (get_or-set_other t (k / 33) ((at + 33) / 33) x 0 ne) ∙ c.1)

-- after a command ---------------------------------------------------------------------------------------------------------

pub sizes-later : (r : Rec) (t : List ℕ) (from at : ℕ) (c : Command) (k : Cursor) → SizesFrom r t from → Memᴰ at (commands_at r.stream from) → step_at r.stream at ≡ Some (c, k)
    → SizesFrom r t k.at
sizes-later r t from at c k z m e = record { sized = λ v n. z.sized v (place-later r.stream at v c k e n from m) }
