-- The answers of the code. Assumes nothing.
use mathlib.Core.Path.{◌≡◌, refl}
use Prim.Native.Nat.{ℕ}
use Rattle.record.specs.Refusals.{refusal_number}
use Rattle.record.specs.declared.refusal.Refusal.{Refusal}
use Rattle.drafts.specs.Edits.{refused, declined, no_room, done}
use Rattle.drafts.specs.Answering.{Says}

pub says-refused : (side place changed m : ℕ) (n : Refusal) → m ≡ refusal_number n → Says (record { answer = record { number = m; side = side; place = place; len = 0 }; changed = changed }) (refused side n place changed)
unfolding refused
says-refused side place changed m n e = record { is = λ b. λ i. record { number = e i; side = side; place = place; len = 0; changed = changed; buffer = b } }

pub says-declined : (number changed : ℕ) → Says (record { answer = record { number = number; side = 0; place = 0; len = 0 }; changed = changed }) (declined number changed)
unfolding declined
says-declined number changed = record { is = λ b. refl }

pub says-room : (need changed : ℕ) → Says (record { answer = record { number = 10; side = 0; place = 0; len = need }; changed = changed }) (no_room need changed)
unfolding no_room
says-room need changed = record { is = λ b. refl }

pub says-done : (changed : ℕ) → Says (record { answer = record { number = 0; side = 0; place = 0; len = 0 }; changed = changed }) (done changed)
unfolding done
says-done changed = record { is = λ b. refl }
