-- A record's head, from a step along its heads. Assumes nothing.
use Rattle.std.specs.Prelude.{Some, None}
use mathlib.Core.Path.{◌≡◌, sym, ap, ◌∙◌}
use mathlib.Core.Bool.{false}
use mathlib.Core.List.{List}
use Rattle.record.specs.Base.{Str, first}
use Rattle.record.specs.Schema.{Heading}
use Rattle.record.specs.Commands.{start}
use Rattle.record.specs.Steps.{heads_at, heads_of, HeadsFrom}
use Rattle.record.specs.Reading.{release_of, unreleased_of}
use Rattle.record.specs.declared.command as D
use Rattle.record.specs.declared.command.Cursor.{Cursor}
use Rattle.compare.specs.Heads.{HeadRelease, HeadUnreleased}
use Rattle.record.specs.Commands.{Step}

module _ (s : Str) (f : Cursor) (o : Step D.Head.Head) (e : f ≡ start) (h : HeadsFrom s f.at o) where
  heads-are : (p : Str) → heads_at s p 0 ≡ heads_of s p o
  heads-are p = ap (λ (c : Cursor). heads_at s p c.at) (sym e) ∙ h.list p

  module _ (m : o ≡ None) where
    pub no-release : HeadRelease s None
    unfolding release_of first
    no-release = record { this = λ p. sym (ap (λ (l : List Heading). release_of (first l)) (heads-are p ∙ ap (heads_of s p) m)) }

    pub not-unreleased : HeadUnreleased s false
    unfolding unreleased_of first
    not-unreleased = record { this = λ p. sym (ap (λ (l : List Heading). unreleased_of (first l)) (heads-are p ∙ ap (heads_of s p) m)) }

  module _ (d : D.Head.Head) (k : Cursor) (m : o ≡ Some (d, k)) where
    pub its-release : HeadRelease s d.release
    unfolding release_of first
    its-release = record { this = λ p. sym (ap (λ (l : List Heading). release_of (first l)) (heads-are p ∙ ap (heads_of s p) m)) }

    pub its-flag : HeadUnreleased s d.unreleased
    unfolding unreleased_of first
    its-flag = record { this = λ p. sym (ap (λ (l : List Heading). unreleased_of (first l)) (heads-are p ∙ ap (heads_of s p) m)) }
