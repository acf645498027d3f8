-- Where a reading accepts a record, the commands that it judged are those that the unjudged cursor finds, so what it reads is the record's
-- schema. Assumes nothing.
use Rattle.std.specs.Prelude.{Option, Some, None, Ok, Err}
use mathlib.Core.Path.{◌≡◌, refl, sym, ◌∙◌, ap, subst}
use mathlib.Core.List.{List, [], ◌∷◌}
use mathlib.Core.Bool.{Bool, true, false, cond, ◌&&◌}
use Prim.Native.Nat.{ℕ, zero, suc, ◌+◌, ◌-◌, ◌≤◌, ◌<◌}
use native.Mathlib.Omega.{arith}
use lib.Dec.{eqb, ltb, leb}
use lib.ListN.{length, get_or, drop}
use borrow.Author.Tests.{eqb-true, eqb-false, ne_eqb, leb-true, ltb-true, ltb-false, lt-ltb, le-ltb}
use Rattle.record.specs.Base.{Str, find}
use Rattle.record.specs.Schema.{Schema}
use Rattle.record.specs.Letters.{odd_letter}
use Rattle.record.specs.Commands.{operands, widths, width_with, width_of, command_of, step_at, place, start, commands_at}
use Rattle.record.specs.Judge.{may_stand, advanced, faults_from, ready, faulted, judged_with, judged_as, judged_at}
use Rattle.record.specs.Reading.{Rec, schema_from, schema_of, Opened, opened, vast, read, Parsed, ok, bad, onto, continued, parse, parsed, vast_or, sizes_of, stream_limit, pool_limit, concluded, reading}
use Rattle.record.specs.declared.command.Cursor.{Cursor}
use Rattle.record.specs.declared.command.Command.{Command}
use Rattle.record.specs.declared.refusal.Side.{Side}
use Rattle.record.specs.declared.refusal.Refusal.TheVariants as R
use Rattle.record.specs.declared.judge.Fault.{Fault}
use Rattle.record.specs.declared.judge.Fault.TheVariants.{Fine, Outside, Missing, Flag}
use Rattle.record.proofs.Stream.{commands-stop, commands-next}
use Rattle.record.proofs.Basics.{same-parts}
use Rattle.record.specs.Judge.{Judged}

-- what a judgement has passed that does not refuse
abbrev pub Lets : Judged → Type 0
Lets (Ok (Some (c, k))) = Unit {0}
Lets (Ok None) = Unit {0}
Lets (Err (n, p)) = ⊥

-- a command whose row is known, that may stand here, whole and without fault
pub record Passed (side : Side) (s : Str) (pool : Str) (c : Cursor) (j : Judged) : Type 0 where
  pub row : Str
  pub inside : c.at < length s
  pub has-row : operands (get_or s c.at 0) ≡ Some row
  pub whole : 1 + widths row ≤ length s - c.at
  pub stands : may_stand c (get_or s c.at 0) ≡ true
  pub fine : faults_from side pool (drop c.at s) 1 row ≡ Fine
  pub is-ready : ready s c (get_or s c.at 0) (1 + widths row) ≡ j

module _ (side : Side) (s : Str) (pool : Str) (c : Cursor) (j : Judged) (l : Lets j) where
  pub passed : judged_at side s pool c ≡ j → Passed side s pool c j
  unfolding judged_at judged_with
  passed e = past (ltb c.at (length s)) refl e
    where
      past : (b : Bool) → ltb c.at (length s) ≡ b → cond b (judged_as side s pool c (get_or s c.at 0) (operands (get_or s c.at 0))) (Err (R.Cut, c.at)) ≡ j → Passed side s pool c j
      past false q h = absurd (subst Lets (sym h) l)
      past true q h = row (operands (get_or s c.at 0)) refl h
        where
          row : (o : Option Str) → operands (get_or s c.at 0) ≡ o → judged_as side s pool c (get_or s c.at 0) o ≡ j → Passed side s pool c j
          row None q2 h = absurd (subst Lets (sym h) l)
          row (Some os) q2 h = cut (ltb (length s - c.at) (1 + widths os)) refl (may_stand c (get_or s c.at 0)) refl (faults_from side pool (drop c.at s) 1 os) refl h
            where
              cut : (b : Bool) → ltb (length s - c.at) (1 + widths os) ≡ b → (t : Bool) → may_stand c (get_or s c.at 0) ≡ t → (f : Fault) → faults_from side pool (drop c.at s) 1 os ≡ f
                  → cond b (Err (R.Cut, c.at)) (cond t (faulted c.at (ready s c (get_or s c.at 0) (1 + widths os)) f) (Err (R.Misplaced, c.at))) ≡ j → Passed side s pool c j
              cut true q3 t q4 f q5 h = absurd (subst Lets (sym h) l)
              cut false q3 false q4 f q5 h = absurd (subst Lets (sym h) l)
              cut false q3 true q4 Outside q5 h = absurd (subst Lets (sym h) l)
              cut false q3 true q4 Missing q5 h = absurd (subst Lets (sym h) l)
              cut false q3 true q4 Flag q5 h = absurd (subst Lets (sym h) l)
              cut false q3 true q4 Fine q5 h = record {
                row = os;
                inside = ltb-true c.at (length s) q;
                has-row = q2;
                whole = ltb-false (length s - c.at) (1 + widths os) q3;
                stands = q4;
                fine = q5;
                is-ready = h;
              }

-- the unjudged cursor finds the same command
record Taken (s : Str) (c : Cursor) (b w : ℕ) (d : Command) (k : Cursor) : Type 0 where
  going : b ≡ 15 → ⊥
  that : command_of b (drop c.at s) ≡ d
  next : advanced c b w ≡ k

taken : (s : Str) (c : Cursor) (b w : ℕ) (d : Command) (k : Cursor) → ready s c b w ≡ Ok (Some (d, k)) → Taken s c b w d k
unfolding ready
taken s c b w d k e = go (eqb b 15) refl (eqb (c.at + w) (length s)) e
  where
    go : (t : Bool) → eqb b 15 ≡ t → (u : Bool) → cond {A = Judged} t (cond u (Ok None) (Err (R.Misplaced, c.at + w))) (Ok (Some (command_of b (drop c.at s), advanced c b w))) ≡ Ok (Some (d, k)) → Taken s c b w d k
    go true q true h = absurd (let z : ◌≡◌ {A = ℕ} 0 1 = cc in omega arith)
    go true q false h = absurd (let z : ◌≡◌ {A = ℕ} 0 1 = cc in omega arith)
    go false q u h = let z : Some (command_of b (drop c.at s), advanced c b w) ≡ Some (d, k) = cc in
        let g = same-parts z in record { going = eqb-false b 15 q; that = g.0; next = g.1 }

ended : (s : Str) (c : Cursor) (b w : ℕ) → ready s c b w ≡ Ok None → b ≡ 15
unfolding ready
ended s c b w e = go (eqb b 15) refl (eqb (c.at + w) (length s)) e
  where
    go : (t : Bool) → eqb b 15 ≡ t → (u : Bool) → cond {A = Judged} t (cond u (Ok None) (Err (R.Misplaced, c.at + w))) (Ok (Some (command_of b (drop c.at s), advanced c b w))) ≡ Ok None → b ≡ 15
    go true q u h = eqb-true b 15 q
    go false q u h = absurd (let z : ◌≡◌ {A = ℕ} 0 1 = cc in omega arith)

module _ (side : Side) (s : Str) (pool : Str) (c : Cursor) where
  pub judged-step : (d : Command) (k : Cursor) → judged_at side s pool c ≡ Ok (Some (d, k)) → step_at s c.at ≡ Some (d, place k.at)
  unfolding step_at width_of width_with
  judged-step d k e =
      let p = passed side s pool c (Ok (Some (d, k))) tt e in
      let t = taken s c (get_or s c.at 0) (1 + widths p.row) d k p.is-ready in
      let w = p.whole in
      let z : 1 + widths p.row ≡ 0 → ⊥ = λ q. omega arith in
      let pool : c.at + (1 + widths p.row) ≡ k.at = ap (λ (j : Cursor). j.at) t.next in
      rw (lt-ltb c.at (length s) p.inside, ne_eqb (get_or s c.at 0) 15 t.going, p.has-row, ne_eqb (1 + widths p.row) 0 z, le-ltb (length s - c.at) (1 + widths p.row) w, t.that, pool)

  pub judged-stop : judged_at side s pool c ≡ Ok None → step_at s c.at ≡ None
  unfolding step_at
  judged-stop e =
      let p = passed side s pool c (Ok None) tt e in
      let q = ended s c (get_or s c.at 0) (1 + widths p.row) p.is-ready in
      rw (lt-ltb c.at (length s) p.inside, q)

pub record Rest (at : ℕ) (x : Parsed) (ps : List ℕ) : Type 0 where
  pub more : List ℕ
  pub parsed-so : x ≡ ok more
  pub whole : at ∷ more ≡ ps

pub onto-ok : (at : ℕ) (x : Parsed) (ps : List ℕ) → onto at x ≡ ok ps → Rest at x ps
unfolding onto
onto-ok at (ok ds) ps h = record { more = ds; parsed-so = refl; whole = cc }
onto-ok at (bad n q) ps h = absurd (let z : ◌≡◌ {A = ℕ} 0 1 = cc in omega arith)

pub parse-is : (k : ℕ) (side : Side) (s : Str) (pool : Str) (c : Cursor) (ps : List ℕ) → parse k side s pool c ≡ ok ps → ps ≡ commands_at s c.at
unfolding parse continued
parse-is zero side s pool c ps h = absurd (let z : ◌≡◌ {A = ℕ} 0 1 = cc in omega arith)
parse-is (suc k) side s pool c ps h = go (parse-is k side s pool) (judged_at side s pool c) refl h
  where
    go : ((d : Cursor) (qs : List ℕ) → parse k side s pool d ≡ ok qs → qs ≡ commands_at s d.at) → (j : Judged) → judged_at side s pool c ≡ j → continued c.at (parse k side s pool) j ≡ ok ps → ps ≡ commands_at s c.at
    go ih (Ok (Some (d, j))) e h =
        let t = onto-ok c.at (parse k side s pool j) ps h in
        sym t.whole ∙ ap (λ (l : List ℕ). c.at ∷ l) (ih j t.more t.parsed-so) ∙ sym (commands-next s c.at d (place j.at) (judged-step side s pool c d j e))
    go ih (Ok None) e h =
        let z : ps ≡ [] = sym cc in
        z ∙ sym (commands-stop s c.at (judged-stop side s pool c e))
    go ih (Err (r, p)) e h = absurd (let z : ◌≡◌ {A = ℕ} 0 1 = cc in omega arith)

pub parsed-is : (side : Side) (r : Rec) (ps : List ℕ) → parsed side r ≡ ok ps → ps ≡ commands_at r.stream 0
unfolding parsed
parsed-is side r ps e = parse-is (length r.stream + 1) side r.stream r.pool start ps e

-- what an accepted reading has passed
pub record Accepted (side : Side) (r : Rec) (t : Schema) : Type 0 where
  pub stream-short : length r.stream ≤ 32768
  pub parsed-all : parsed side r ≡ ok (commands_at r.stream 0)
  pub none-vast : find (vast t) (opened r.stream r.pool (commands_at r.stream 0)) ≡ None
  pub is-schema : schema_of r ≡ t

pub accepting : (side : Side) (r : Rec) (t : Schema) → reading side r ≡ read t → Accepted side r t
unfolding reading concluded sizes_of vast_or schema_of stream_limit
accepting side r t h =
    go (leb (length r.stream) stream_limit) (leb (length r.pool) pool_limit) (odd_letter r.pool) (parsed side r) refl refl h
  where
    last : leb (length r.stream) stream_limit ≡ true → (ps : List ℕ) → parsed side r ≡ ok ps → ps ≡ commands_at r.stream 0 → (o : Option Opened)
        → find (vast (schema_from r ps)) (opened r.stream r.pool ps) ≡ o → vast_or (schema_from r ps) o ≡ read t → Accepted side r t
    last w ps e q None f h =
        let i : schema_from r ps ≡ t = cc in
        record {
          stream-short = leb-true (length r.stream) 32768 w;
          parsed-all = e ∙ ap ok q;
          none-vast = sym (ap (λ (l : List ℕ). find (vast t) (opened r.stream r.pool l)) q) ∙ sym (ap (λ (x : Schema). find (vast x) (opened r.stream r.pool ps)) i) ∙ f;
          is-schema = ap (schema_from r) (sym q) ∙ i;
        }
    last w ps e q (Some x) f h = absurd (let z : ◌≡◌ {A = ℕ} 0 1 = cc in omega arith)

    go : (a b : Bool) (l : Option ℕ) (x : Parsed) → leb (length r.stream) stream_limit ≡ a → parsed side r ≡ x → concluded r (a && b) l x ≡ read t → Accepted side r t
    go false b l x w e h = absurd (let z : ◌≡◌ {A = ℕ} 0 1 = cc in omega arith)
    go true false l x w e h = absurd (let z : ◌≡◌ {A = ℕ} 0 1 = cc in omega arith)
    go true true (Some i) x w e h = absurd (let z : ◌≡◌ {A = ℕ} 0 1 = cc in omega arith)
    go true true None (bad n p) w e h = absurd (let z : ◌≡◌ {A = ℕ} 0 1 = cc in omega arith)
    go true true None (ok ps) w e h = last w ps e (parsed-is side r ps e) (find (vast (schema_from r ps)) (opened r.stream r.pool ps)) refl h

-- the judged reading and the unjudged schema: on either side, an accepted record is read as its schema
pub accepted : (side : Side) (r : Rec) (t : Schema) → reading side r ≡ read t → schema_of r ≡ t
accepted side r t h = (accepting side r t h).is-schema
