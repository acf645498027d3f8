-- From the judged commands of a record: all of them, those after a type's parts, and those without a type, written anew, are chains. Assumes nothing.
use Rattle.std.specs.Prelude.{Some, None, Ok, Err}
use mathlib.Core.Path.{◌≡◌, refl, sym, ap, ◌∙◌, subst}
use mathlib.Core.List.{List, [], ◌∷◌, ◌++◌, map, Memᴰ}
use mathlib.Core.Bool.{Bool, true, false, ◌||◌, cond, false≢true}
use Prim.Native.Nat.{ℕ, zero, suc, ◌+◌, ◌<◌}
use native.Mathlib.Omega.{arith}
use lib.ListN.{length, get_or, drop}
use lib.Dec.{eqb}
use borrow.Author.Tests.{eqb-true, ne_eqb}
use Rattle.record.specs.Base.{Str}
use Rattle.record.specs.Commands.{operands, widths}
use Rattle.record.specs.Judge.{may_stand, follows, parent_after, advanced, faults_from, judged_at}
use Rattle.record.specs.Reading.{ok, continued, parse}
use Rattle.record.specs.declared.text.Text.{Text}
use Rattle.record.specs.declared.command.Parent.{Parent}
use Rattle.record.specs.declared.command.Cursor.{Cursor}
use Rattle.record.specs.declared.command.Command.{Command}
use Rattle.record.specs.declared.refusal.Side.{Side}
use Rattle.record.specs.declared.judge.Fault.TheVariants.{Fine}
use Rattle.record.proofs.Basics.{both}
use Rattle.record.proofs.Accepted.{Rest, onto-ok}
use Rattle.drafts.specs.Content.{Operand, Content, content_as, content_at, operands_with}
use Rattle.record.specs.CommandTexts.{texts_with, texts_at}
use Rattle.drafts.specs.Packing.{row_bytes, row_with, written_at, written}
use Rattle.drafts.specs.Addition.{is_type, is_part}
use Rattle.drafts.specs.Edits.{named, after_parts, without}
use Rattle.drafts.proofs.Pools.{Moved}
use Rattle.drafts.proofs.Moving.{Same, row_same, length-row}
use Rattle.drafts.proofs.Links.{flag-kept, Link, Chain, Went, went, stopped}
use Rattle.record.specs.Judge.{Judged}

-- a cursor at another place
abbrev pub shift : ℕ → Cursor → Cursor
shift a c = record { at = a; last = c.last; parent = c.parent }

shift-stands : (a : ℕ) (c : Cursor) (b : ℕ) → may_stand c b ≡ true → may_stand (shift a c) b ≡ true
unfolding may_stand follows
shift-stands a c b h = h

-- a command that is no part of a type stands after anything but nothing and the head of a list, whatever it follows now
pub record Quiet (l : ℕ) : Type 0 where
  pub not0 : l ≡ 0 → ⊥
  pub not4 : l ≡ 4 → ⊥
  pub not5 : l ≡ 5 → ⊥
  pub not6 : l ≡ 6 → ⊥
  pub not7 : l ≡ 7 → ⊥

-- the letters of is_part
pub record NoPart (b : ℕ) : Type 0 where
  pub not10 : eqb b 10 ≡ false
  pub not11 : eqb b 11 ≡ false
  pub not12 : eqb b 12 ≡ false

pub no_part : (b : ℕ) → is_part b ≡ false → NoPart b
unfolding is_part
no_part b h = go (eqb b 10) refl (eqb b 11) refl (eqb b 12) refl h
  where
    go : (x : Bool) → eqb b 10 ≡ x → (y : Bool) → eqb b 11 ≡ y → (z : Bool) → eqb b 12 ≡ z → (x || y || z) ≡ false → NoPart b
    go true e y f z g h = absurd (false≢true (sym h))
    go false e true f z g h = absurd (false≢true (sym h))
    go false e false f true g h = absurd (false≢true (sym h))
    go false e false f false g h = record { not10 = e; not11 = f; not12 = g }

module _ (c k : Cursor) (b : ℕ) (part : is_part b ≡ false) where
  pub stands-anew : may_stand c b ≡ true → Quiet c.last → (k.last ≡ 0 → ⊥) → may_stand k b ≡ true
  unfolding may_stand follows
  stands-anew h q n = go (eqb b 1) (eqb b 5) (eqb b 7) _ _ (let p = no_part b part in rw (p.not10, p.not11, p.not12, ne_eqb k.last 0 n)) h
    where
      go : (x y z m1 m2 : Bool) → m2 ≡ true
          → cond x (eqb c.last 0) (cond y (eqb c.last 4 || eqb c.last 5) (cond z (eqb c.last 6 || eqb c.last 7) m1)) ≡ true
          → cond x (eqb k.last 0) (cond y (eqb k.last 4 || eqb k.last 5) (cond z (eqb k.last 6 || eqb k.last 7) m2)) ≡ true
      go true y z m1 m2 r h = absurd (false≢true (sym (ne_eqb c.last 0 q.not0) ∙ h))
      go false true z m1 m2 r h = absurd (false≢true (rw (ne_eqb c.last 4 q.not4, ne_eqb c.last 5 q.not5) at h))
      go false false true m1 m2 r h = absurd (false≢true (rw (ne_eqb c.last 6 q.not6, ne_eqb c.last 7 q.not7) at h))
      go false false false m1 m2 r h = r

  pub parent-anew : parent_after k.parent b ≡ parent_after c.parent b
  unfolding parent_after
  parent-anew = let p = no_part b part in rw (p.not10, p.not11, p.not12)

pub part-quiet : (b : ℕ) → is_part b ≡ true → Quiet b
unfolding is_part
part-quiet b h = go (eqb b 10) refl (eqb b 11) refl (eqb b 12) refl h
  where
    far : (m : ℕ) → b ≡ m → 7 < m → Quiet b
    far m e g = record { not0 = λ q. omega arith; not4 = λ q. omega arith; not5 = λ q. omega arith; not6 = λ q. omega arith; not7 = λ q. omega arith }

    go : (x : Bool) → eqb b 10 ≡ x → (y : Bool) → eqb b 11 ≡ y → (z : Bool) → eqb b 12 ≡ z → (x || y || z) ≡ true → Quiet b
    go true e y f z g h = far 10 (eqb-true b 10 e) (omega arith)
    go false e true f z g h = far 11 (eqb-true b 11 f) (omega arith)
    go false e false f true g h = far 12 (eqb-true b 12 g) (omega arith)
    go false e false f false g h = absurd (false≢true h)

pub type-quiet : (b : ℕ) → is_type b ≡ true → Quiet b
unfolding is_type
type-quiet b h = go (eqb b 8) refl (eqb b 9) refl h
  where
    far : (m : ℕ) → b ≡ m → 7 < m → Quiet b
    far m e g = record { not0 = λ q. omega arith; not4 = λ q. omega arith; not5 = λ q. omega arith; not6 = λ q. omega arith; not7 = λ q. omega arith }

    go : (x : Bool) → eqb b 8 ≡ x → (y : Bool) → eqb b 9 ≡ y → (x || y) ≡ true → Quiet b
    go true e y f h = far 8 (eqb-true b 8 e) (omega arith)
    go false e true f h = far 9 (eqb-true b 9 f) (omega arith)
    go false e false f h = absurd (false≢true h)

-- a type does not stand first
pub type-later : (c : Cursor) (b : ℕ) → is_type b ≡ true → may_stand c b ≡ true → c.last ≡ 0 → ⊥
unfolding is_type may_stand
type-later c b h m z = go (eqb b 8) refl (eqb b 9) refl h
  where
    go : (x : Bool) → eqb b 8 ≡ x → (y : Bool) → eqb b 9 ≡ y → (x || y) ≡ true → ⊥
    go true e y f h = false≢true (rw (eqb-true b 8 e, z) at m)
    go false e true f h = false≢true (rw (eqb-true b 9 f, z) at m)
    go false e false f h = false≢true h

abbrev content-as : ℕ → List Operand → Content
content-as b l = record { number = b; operands = l }

module _ (side : Side) (s p p2 : Str) (f : ℕ → ℕ) (small : length p2 < 65535) where
  -- every text of the commands at these places is advanced
  abbrev pub AllMoved : List ℕ → Type 0
  AllMoved ps = (at : ℕ) → Memᴰ at ps → (u : Text) → Memᴰ u (texts_at s at) → Moved f p p2 u

  pub link : (at : ℕ) (k : Cursor) (row : Str) → operands (get_or s at 0) ≡ Some row → may_stand k (get_or s at 0) ≡ true → faults_from side p (drop at s) 1 row ≡ Fine
      → (get_or s at 0 ≡ 15 → ⊥) → ((u : Text) → Memᴰ u (texts_at s at) → Moved f p p2 u)
      → Link side p2 k (written_at f s at) (content_at s p at)
  unfolding written_at content_at content_as operands_with row_with texts_at texts_with
  link at k row e st fi g m = record {
    row = row;
    has-row = e;
    sized = sized;
    going = g;
    stands = st;
    fine = λ rest. rw e (same rest).fine;
    says = λ rest. rw e (ap (λ (l : List Operand). content-as (get_or s at 0) l) (same rest).says);
  }
    where
      x : Str
      x = drop at s

      sized : length (get_or s at 0 ∷ row_with f (drop at s) (operands (get_or s at 0))) ≡ 1 + widths row
      sized = rw e (let n = length-row p p2 small f side (drop at s) 1 row in omega arith)

      same : (rest : Str) → Same p p2 small f side (drop at s) (get_or s at 0 ∷ (row_bytes f (drop at s) 1 row ++ rest)) 1 row
      same rest = row_same p p2 small f side (drop at s) (get_or s at 0 ∷ []) rest 1 row refl fi (λ u q. m u (rw e q)) (flag-kept f (drop at s) rest (get_or s at 0) row e)

  module _ (zs : List Str) (ds : List Content) (more : (k : Cursor) → (k.last ≡ 0 → ⊥) → Chain side p2 k zs ds) where
    abbrev Chained : Cursor → List ℕ → Type 0
    Chained k ps = Chain side p2 k (written f s ps ++ zs) (map (content_at s p) ps ++ ds)

    -- one command, and what follows it
    linked : (c k j : Cursor) (ps : List ℕ) → Went side s p c j → may_stand k (get_or s c.at 0) ≡ true → AllMoved (c.at ∷ ps)
        → Chained (advanced k (get_or s c.at 0) (length (written_at f s c.at))) ps → Chained k (c.at ∷ ps)
    unfolding written written_at
    linked c k j ps w st m r = (link c.at k w.row w.has-row st w.fine w.going (m c.at (Memᴰ.head refl)), r)

    ended : (c : Cursor) (ps : List ℕ) → ok [] ≡ ok ps → (k : Cursor) → (k.last ≡ 0 → ⊥) → Chained k ps
    unfolding written
    ended c ps e k n = let q : [] ≡ ps = cc in subst (λ (l : List ℕ). Chained k l) q (more k n)

    -- all commands from a cursor on, begun at another place
    pub chain-all : (n : ℕ) (c : Cursor) (ps : List ℕ) → parse n side s p c ≡ ok ps → AllMoved ps → (a : ℕ) → Chained (shift a c) ps
    unfolding parse continued
    chain-all zero c ps h m a = absurd (let z : ◌≡◌ {A = ℕ} 0 1 = cc in omega arith)
    chain-all (suc n) c ps h m a = go (judged_at side s p c) refl h (λ k qs e l b. chain-all n k qs e l b)
      where
        step : (d : Command) (k : Cursor) → judged_at side s p c ≡ Ok (Some (d, k)) → Rest c.at (parse n side s p k) ps
            → ((k : Cursor) (qs : List ℕ) → parse n side s p k ≡ ok qs → AllMoved qs → (b : ℕ) → Chained (shift b k) qs) → Chained (shift a c) ps
        step d k e t ih =
            let w = went side s p c d k e in
            let m2 : AllMoved (c.at ∷ t.more) = subst (λ (l : List ℕ). AllMoved l) (sym t.whole) m in
            let r = ih k t.more t.parsed-so (λ at q. m2 at (Memᴰ.tail q)) (a + length (written_at f s c.at)) in
            let r2 = subst (λ (q : Cursor). Chained (shift (a + length (written_at f s c.at)) q) t.more) (sym w.next) r in
            subst (λ (l : List ℕ). Chained (shift a c) l) t.whole (linked c (shift a c) k t.more w (shift-stands a c (get_or s c.at 0) w.stands) m2 r2)

        go : (j : Judged) → judged_at side s p c ≡ j → continued c.at (parse n side s p) j ≡ ok ps
            → ((k : Cursor) (qs : List ℕ) → parse n side s p k ≡ ok qs → AllMoved qs → (b : ℕ) → Chained (shift b k) qs) → Chained (shift a c) ps
        go (Ok (Some (d, k))) e h ih = step d k e (onto-ok c.at (parse n side s p k) ps h) ih
        go (Ok None) e h ih = ended c ps h (shift a c) (stopped side s p c e)
        go (Err (r, q)) e h ih = absurd (let z : ◌≡◌ {A = ℕ} 0 1 = cc in omega arith)

    -- the commands after a type's parts, begun anywhere but at the front
    pub chain-after : (n : ℕ) (c : Cursor) (ps : List ℕ) → parse n side s p c ≡ ok ps → Quiet c.last → AllMoved (after_parts s ps) → (k : Cursor) → (k.last ≡ 0 → ⊥) → Chained k (after_parts s ps)
    unfolding parse continued after_parts
    chain-after zero c ps h u m k z = absurd (let z : ◌≡◌ {A = ℕ} 0 1 = cc in omega arith)
    chain-after (suc n) c ps h u m k z = go (judged_at side s p c) refl h (λ j qs e l b. chain-after n j qs e l b k z)
      where
        part : (d : Command) (j : Cursor) → Went side s p c j → (qs : List ℕ) → parse n side s p j ≡ ok qs → (t : Bool) → is_part (get_or s c.at 0) ≡ t
            → AllMoved (cond t (after_parts s qs) (c.at ∷ qs))
            → ((j : Cursor) (qs : List ℕ) → parse n side s p j ≡ ok qs → Quiet j.last → AllMoved (after_parts s qs) → Chained k (after_parts s qs))
            → Chained k (cond t (after_parts s qs) (c.at ∷ qs))
        part d j w qs e true q m ih = ih j qs e (subst (λ (x : Cursor). Quiet x.last) w.next (part-quiet (get_or s c.at 0) q)) m
        part d j w qs e false q m ih =
            let b = get_or s c.at 0 in
            let r = chain-all n j qs e (λ at x. m at (Memᴰ.tail x)) (k.at + length (written_at f s c.at)) in
            let r2 = subst (λ (x : Cursor). Chained (shift (k.at + length (written_at f s c.at)) x) qs) (sym w.next) r in
            let r3 = subst (λ (x : Parent). Chained (record { at = k.at + length (written_at f s c.at); last = b; parent = x }) qs) (sym (parent-anew c k b q)) r2 in
            linked c k j qs w (stands-anew c k b q w.stands u z) m r3

        step : (d : Command) (j : Cursor) → judged_at side s p c ≡ Ok (Some (d, j)) → Rest c.at (parse n side s p j) ps
            → ((j : Cursor) (qs : List ℕ) → parse n side s p j ≡ ok qs → Quiet j.last → AllMoved (after_parts s qs) → Chained k (after_parts s qs)) → Chained k (after_parts s ps)
        step d j e t ih =
            let w = went side s p c d j e in
            subst (λ (l : List ℕ). Chained k (after_parts s l)) t.whole
            (part d j w t.more t.parsed-so (is_part (get_or s c.at 0)) refl (subst (λ (l : List ℕ). AllMoved (after_parts s l)) (sym t.whole) m) ih)

        go : (j : Judged) → judged_at side s p c ≡ j → continued c.at (parse n side s p) j ≡ ok ps
            → ((j : Cursor) (qs : List ℕ) → parse n side s p j ≡ ok qs → Quiet j.last → AllMoved (after_parts s qs) → Chained k (after_parts s qs)) → Chained k (after_parts s ps)
        go (Ok (Some (d, j))) e h ih = step d j e (onto-ok c.at (parse n side s p j) ps h) ih
        go (Ok None) e h ih = let q : [] ≡ ps = cc in subst (λ (l : List ℕ). Chained k (after_parts s l)) q (ended c [] refl k z)
        go (Err (r, q)) e h ih = absurd (let z : ◌≡◌ {A = ℕ} 0 1 = cc in omega arith)

    pub named-type : (v : Str) (at : ℕ) → named s p v at ≡ true → is_type (get_or s at 0) ≡ true
    unfolding named
    named-type v at h = (both (is_type (get_or s at 0)) _ h).0

    -- the commands without the first type of a name
    pub chain-without : (v : Str) (n : ℕ) (c : Cursor) (ps : List ℕ) → parse n side s p c ≡ ok ps → AllMoved (without s p v ps) → (a : ℕ) → Chained (shift a c) (without s p v ps)
    unfolding parse continued without
    chain-without v zero c ps h m a = absurd (let z : ◌≡◌ {A = ℕ} 0 1 = cc in omega arith)
    chain-without v (suc n) c ps h m a = go (judged_at side s p c) refl h (λ k qs e l b. chain-without v n k qs e l b)
      where
        type : (k : Cursor) → Went side s p c k → (qs : List ℕ) → parse n side s p k ≡ ok qs → (t : Bool) → named s p v c.at ≡ t
            → AllMoved (cond t (after_parts s qs) (c.at ∷ without s p v qs))
            → ((k : Cursor) (qs : List ℕ) → parse n side s p k ≡ ok qs → AllMoved (without s p v qs) → (b : ℕ) → Chained (shift b k) (without s p v qs))
            → Chained (shift a c) (cond t (after_parts s qs) (c.at ∷ without s p v qs))
        type k w qs e true q m ih =
            let b = named-type v c.at q in
            chain-after n k qs e (subst (λ (x : Cursor). Quiet x.last) w.next (type-quiet (get_or s c.at 0) b)) m (shift a c) (type-later c (get_or s c.at 0) b w.stands)
        type k w qs e false q m ih =
            let r = ih k qs e (λ at x. m at (Memᴰ.tail x)) (a + length (written_at f s c.at)) in
            let r2 = subst (λ (x : Cursor). Chained (shift (a + length (written_at f s c.at)) x) (without s p v qs)) (sym w.next) r in
            linked c (shift a c) k (without s p v qs) w (shift-stands a c (get_or s c.at 0) w.stands) m r2

        go : (j : Judged) → judged_at side s p c ≡ j → continued c.at (parse n side s p) j ≡ ok ps
            → ((k : Cursor) (qs : List ℕ) → parse n side s p k ≡ ok qs → AllMoved (without s p v qs) → (b : ℕ) → Chained (shift b k) (without s p v qs))
            → Chained (shift a c) (without s p v ps)
        go (Ok (Some (d, k))) e h ih =
            let t = onto-ok c.at (parse n side s p k) ps h in
            subst (λ (l : List ℕ). Chained (shift a c) (without s p v l)) t.whole
            (type k (went side s p c d k e) t.more t.parsed-so (named s p v c.at) refl (subst (λ (l : List ℕ). AllMoved (without s p v l)) (sym t.whole) m) ih)
        go (Ok None) e h ih = let q : [] ≡ ps = cc in subst (λ (l : List ℕ). Chained (shift a c) (without s p v l)) q (ended c [] refl (shift a c) (stopped side s p c e))
        go (Err (r, q)) e h ih = absurd (let z : ◌≡◌ {A = ℕ} 0 1 = cc in omega arith)
