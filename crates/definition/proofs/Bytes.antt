-- Demand 3, on bytes, for every first record and every list of offers. Assumes nothing.
use mathlib.Core.Path.{◌≡◌, refl, sym, ◌∙◌, ap, subst}
use mathlib.Core.List.Memᴰ
use mathlib.Core.List.{List, [], ◌∷◌, Memᴰ}
use mathlib.Core.Bool.{Bool, true, false, cond}
use Prim.Native.Nat.{ℕ, ◌≤◌}
use native.Mathlib.Omega.{arith}
use lib.Dec.{eqb, leb, lit≤}
use lib.ListN.{length}
use borrow.Author.Tests.{eqb-true, ne_eqb}
use Rattle.record.specs.Schema.{Schema}
use Rattle.record.specs.Refusals.{refusal_number}
use Rattle.record.specs.Reading.{Rec, Reading, read, refuse, reading}
use Rattle.record.specs.declared.refusal.Side.{Side}
use Rattle.record.specs.declared.refusal.Side.TheVariants.{Current, Released}
use Rattle.record.specs.declared.refusal.Refusal.{Refusal}
use Rattle.record.specs.declared.refusal.Refusal.TheVariants as R
use Rattle.record.proofs.Sides.{one-reading}
use Rattle.definition.specs.Verdicts.{Verdict, pass, stop, word_number}
use Rattle.definition.specs.Compare.{compare}
use Rattle.layout.specs.Answer.{Answer, refusal_of, text_or}
use Rattle.definition.specs.Answer.{verdict_of, answered, check}
use Rattle.definition.specs.Chain.{Kinds, Names, Governed}
use Rattle.definition.specs.Offers.{Offer, chain, last_of, last_accepted, SchemaHas, All, NoneAccepted, Demand3}
use Rattle.definition.proofs.Words.{word-large}
use Rattle.definition.proofs.Chains.{step_of, Linked, Each, kept-all, still}

-- number 0 accepts and nothing else has it ------------------------------------------------------------------------------------------------

refusal-large : (n : Refusal) → 1 ≤ refusal_number n
refusal-large R.Cut = lit≤ tt
refusal-large R.Unknown = lit≤ tt
refusal-large R.Misplaced = lit≤ tt
refusal-large R.Outside = lit≤ tt
refusal-large R.Missing = lit≤ tt
refusal-large R.Flag = lit≤ tt
refusal-large R.Letter = lit≤ tt
refusal-large R.Long = lit≤ tt
refusal-large R.Vast = lit≤ tt

not-zero : (side : Side) (n : Refusal) (p : ℕ) → (refusal_of side n p).number ≡ 0 → ⊥
unfolding refusal_of
not-zero side n p e = let k = refusal-large n in omega arith

verdict-passed : (room : ℕ) (v : Verdict) → (verdict_of room v).number ≡ 0 → v ≡ pass
unfolding verdict_of text_or
verdict-passed room pass h = refl
verdict-passed room (stop w m) h = absurd (go (leb (length m) room) h)
  where
    go : (b : Bool)
        → (cond {A = Answer} b (record { number = word_number w; side = 0; place = 0; len = length m; text = m })
        (record { number = 10; side = 0; place = 0; len = length m; text = [] })).number ≡ 0 → ⊥
    go true e = let k = word-large w in omega arith
    go false e = omega arith

-- an acceptance reads both records, and the comparison passes
pub record Accepted (cur rel : Rec) : Type 0 where
  pub now : Schema
  pub is-now : reading Current cur ≡ read now
  pub was : Schema
  pub is-was : reading Released rel ≡ read was
  pub passes : compare now was ≡ pass

pub accepted : (room : ℕ) (cur rel : Rec) → (check room cur rel).number ≡ 0 → Accepted cur rel
unfolding check answered
accepted room cur rel h = go (reading Current cur) (reading Released rel) refl refl h
  where
    go : (x y : Reading) → reading Current cur ≡ x → reading Released rel ≡ y → (answered room x y).number ≡ 0 → Accepted cur rel
    go (read c) (read r) e f t = record { now = c; is-now = e; was = r; is-was = f; passes = verdict-passed room (compare c r) t }
    go (read c) (refuse n p) e f t = absurd (not-zero Released n p t)
    go (refuse n p) y e f t = absurd (not-zero Current n p t)

-- the schemas of a chain of records --------------------------------------------------------------------------------------------------------

record Followed (s : Schema) (rs : List Rec) (last : Rec) : Type 0 where
  schemas : List Schema
  linked : Linked s schemas
  is_last : reading Released last ≡ read (last_of s schemas)
  from : (t : Schema) → Memᴰ t schemas → (r : Rec) × Memᴰ r rs × (reading Released r ≡ read t)

read_one : (s t : Schema) → read s ≡ read t → s ≡ t
read_one s t e = cc

follow : (a : Rec) (os : List Offer) (s : Schema) → reading Released a ≡ read s → Followed s (chain a os) (last_of a (chain a os))
unfolding chain last_of
follow a [] s e = record { schemas = []; linked = tt; is_last = e; from = λ t m. absurd (Memᴰ.not-nil m) }
follow a (o ∷ os) s e = go (eqb (check o.room r a).number 0) refl (λ t f. follow r os t f) (follow a os s e)
  where
    r : Rec
    r = o.offered

    go : (b : Bool) → eqb (check o.room r a).number 0 ≡ b
        → ((t : Schema) → reading Released r ≡ read t → Followed t (chain r os) (last_of r (chain r os)))
        → Followed s (chain a os) (last_of a (chain a os))
        → Followed s (cond b (r ∷ chain r os) (chain a os)) (last_of a (cond b (r ∷ chain r os) (chain a os)))
    go false c p q = q
    go true c p q =
        let w = accepted o.room r a (eqb-true _ 0 c) in
        let f : reading Released r ≡ read w.now = one-reading r w.now w.is-now in
        let es : w.was ≡ s = read_one w.was s (sym w.is-was ∙ e) in
        let rest = p w.now f in
        record {
          schemas = w.now ∷ rest.schemas;
          linked = (step_of w.now s (subst (λ (x : Schema). compare w.now x ≡ pass) es w.passes), rest.linked);
          is_last = rest.is_last;
          from = each_from f rest.from;
        }
      where
        each_from : {t : Schema} {ts : List Schema} {rs : List Rec} → reading Released r ≡ read t
            → ((u : Schema) → Memᴰ u ts → (x : Rec) × Memᴰ x rs × (reading Released x ≡ read u))
            → (u : Schema) → Memᴰ u (t ∷ ts) → (x : Rec) × Memᴰ x (r ∷ rs) × (reading Released x ≡ read u)
        each_from f k u (Memᴰ.head q) = (r, Memᴰ.head refl, f ∙ ap read (sym q))
        each_from f k u (Memᴰ.tail i) = let v = k u i in (v.0, Memᴰ.tail v.1, v.2)

-- a premise of the chain's records is one of their schemas
each : (P : Schema → Type 0) {s : Schema} {rs : List Rec} {last : Rec} (f : Followed s rs last) → All (SchemaHas P) rs → Each P f.schemas
each P f gs u i = let v = f.from u i in gs v.0 v.1 u v.2

-- demand 3 -----------------------------------------------------------------------------------------------------------------------------

-- where the first record can't be read as released, nothing is accepted
none-accepted : (first : Rec) (os : List Offer) (n : Refusal) (place : ℕ) → reading Released first ≡ refuse n place
    → NoneAccepted first n place os
unfolding check answered chain last_accepted last_of
none-accepted first os n place e =
    record {
      on_read = λ o c h. rw (h, e);
      on-refused = λ o m q h. rw h;
      none-accepted = none os;
      last-is-first = rw (none os);
    }
  where
    refused : (room : ℕ) (x : Reading) → (answered room x (refuse n place)).number ≡ 0 → ⊥
    refused room (read c) h = not-zero Released n place h
    refused room (refuse m q) h = not-zero Current m q h

    none : (ps : List Offer) → chain first ps ≡ []
    none [] = refl
    none (o ∷ ps) = rw (e, ne_eqb _ 0 (refused o.room (reading Current o.offered)), none ps)

-- the three parts of demand 3, for every first record and every list of offers
pub demand-3 : (first : Rec) (os : List Offer) → Demand3 first os
unfolding last_accepted
demand-3 first os = record {
  nothing-lost = λ g gs s e.
      let f = follow first os s e in
      record { schema = last_of s f.schemas; is_read = f.is_last; kept = kept-all s f.schemas f.linked (g s e) (each Kinds f gs) };
  nothing-moved = λ gs root constant type us s e n holds fields laid.
      let f = follow first os s e in
      record {
        schema = last_of s f.schemas;
        is_read = f.is_last;
        laid = λ still-holds.
            still s f.schemas {root = root} f.linked (each Names f gs) (each (Governed root constant type) f us) holds still-holds laid;
      };
  nothing-accepted = none-accepted first os;
}
