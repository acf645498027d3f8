-- What fields and structures mean is read back from their commands. Assumes nothing.
use Rattle.std.specs.Prelude.{Some, None, Option}
use mathlib.Core.Path.{◌≡◌, refl, ◌∙◌, ap, ap₂}
use mathlib.Core.List.{List, [], ◌∷◌, ◌++◌}
use mathlib.Core.Bool.{Bool, true, false, cond}
use Prim.Native.Nat.{ℕ, ◌+◌, ◌*◌, ◌/◌, ◌%◌}
use lib.Dec.{eqb}
use Rattle.record.specs.Base.{Str, first}
use Rattle.record.specs.Stretch.{text_of}
use Rattle.record.specs.Le.{u16_at, u32_at}
use Rattle.record.specs.Operands.{text_at, opt_text, opt_text_at, opt_number_at}
use Rattle.record.specs.Commands.{struct_at, field_at}
use Rattle.record.specs.Lists.{opt_of, struct_of, field_of, anything}
use Rattle.record.specs.Schema.{Field, Key}
use Rattle.load.specs.Pool as W
use Rattle.load.specs.Commands.{flag_of, value_of, field_bytes, StructCommand, struct_bytes, meant_text, meant_number, field_meant, fields_meant, struct_meant, structs_meant}
use Rattle.load.specs.Generator.{field_commands, struct_commands, stream_of}
use Rattle.load.specs.Written.{listed_in, keys_in, fields_in, structs_in}
use Rattle.load.proofs.CommandLaws.{four_bytes, back_is}
use Rattle.load.specs.declared.commands.FieldCommand.{FieldCommand}

num-back : (n : Option ℕ) → cond (eqb (flag_of n) 0) None (Some ((value_of n) % 256 + 256 * ((value_of n) / 256 % 256) + 65536 * ((value_of n) / 65536 % 256 + 256 * ((value_of n) / 16777216)))) ≡ meant_number n
unfolding meant_number
num-back n = rw (four_bytes (value_of n)) (go (eqb (flag_of n) 0))
  where
    go : (b : Bool) → cond b None (Some (value_of n)) ≡ cond b None (Some (value_of n))
    go true = refl
    go false = refl

field_back : (f : FieldCommand) (x : Str) → field_of W.pool (field_at (field_bytes f ++ x)) None ≡ field_meant f
unfolding field_bytes field_meant meant_text opt_text_at text_at opt_number_at u16_at u32_at
field_back f x = λ i. record {
  name = text_of W.pool (back_is f.name i);
  kind = text_of W.pool (back_is f.kind i);
  typ = opt_of W.pool (opt_text (back_is f.typ i));
  element = opt_of W.pool (opt_text (back_is f.element i));
  count = num-back f.count i;
  rows = num-back f.rows i;
  cols = num-back f.cols i;
  size = num-back f.size i;
  key = None;
}

struct_back : (s : StructCommand) (x : Str) (fs : List Field) → struct_of W.pool (struct_at (struct_bytes s ++ x)) fs ≡ record { name = text_of W.pool s.name; slot = meant_text s.slot; version = meant_text s.version; fields = fs }
unfolding struct_bytes meant_text opt_text_at text_at u16_at
struct_back s x fs = λ i. record {
  name = text_of W.pool (back_is s.name i);
  slot = opt_of W.pool (opt_text (back_is s.slot i));
  version = opt_of W.pool (opt_text (back_is s.version i));
  fields = fs;
}

-- no plugin key follows
keys_none : (p : Str) (ss : List StructCommand) → keys_in p (struct_commands ss []) ≡ []
unfolding keys_in struct_commands listed_in struct_bytes
keys_none p [] = refl
keys_none p (s ∷ ss) = refl

keys-after : (p : Str) (fs : List FieldCommand) (ss : List StructCommand) → keys_in p (field_commands fs (struct_commands ss [])) ≡ []
unfolding keys_in field_commands listed_in field_bytes
keys-after p [] ss = keys_none p ss
keys-after p (f ∷ fs) ss = refl

fields-none : (p : Str) (ss : List StructCommand) → fields_in p (struct_commands ss []) ≡ []
unfolding fields_in struct_commands listed_in struct_bytes
fields-none p [] = refl
fields-none p (s ∷ ss) = refl

cons_field : (f : FieldCommand) (cs : List Str) → fields_in W.pool (field_bytes f ∷ cs) ≡ field_of W.pool (field_at (field_bytes f ++ stream_of cs)) (first (keys_in W.pool cs)) ∷ fields_in W.pool cs
unfolding fields_in listed_in field_bytes
cons_field f cs = refl

pub fields_back : (fs : List FieldCommand) (ss : List StructCommand) → fields_in W.pool (field_commands fs (struct_commands ss [])) ≡ fields_meant fs
unfolding field_commands fields_meant first
fields_back [] ss = fields-none W.pool ss
fields_back (f ∷ fs) ss = opens f (field_commands fs (struct_commands ss [])) (keys-after W.pool fs ss) (fields_back fs ss)
  where
    opens : (f : FieldCommand) (cs : List Str) → keys_in W.pool cs ≡ [] → fields_in W.pool cs ≡ fields_meant fs → fields_in W.pool (field_bytes f ∷ cs) ≡ field_meant f ∷ fields_meant fs
    opens f cs k r = cons_field f cs ∙ ap₂ ◌∷◌ (ap (λ (l : List Key). field_of W.pool (field_at (field_bytes f ++ stream_of cs)) (first l)) k ∙ field_back f (stream_of cs)) r

-- a list of other commands passes fields and structures over
module _ {A : Type 0} (b : ℕ) (h : Str → List Str → A) where
  pub skip-fields : eqb 11 b ≡ false → (fs : List FieldCommand) (cs : List Str) → listed_in anything b h (field_commands fs cs) ≡ listed_in anything b h cs
  unfolding listed_in field_commands field_bytes
  skip-fields e [] cs = refl
  skip-fields e (f ∷ fs) cs = rw e (skip-fields e fs cs)

  pub skip-structs : eqb 8 b ≡ false → eqb 11 b ≡ false → (ss : List StructCommand) → listed_in anything b h (struct_commands ss []) ≡ []
  unfolding listed_in struct_commands struct_bytes
  skip-structs d e [] = refl
  skip-structs d e (s ∷ ss) = rw d (skip-fields e s.fields (struct_commands ss []) ∙ skip-structs d e ss)

pub structs-back : (ss : List StructCommand) → structs_in W.pool (struct_commands ss []) ≡ structs_meant ss
unfolding structs_in struct_commands listed_in structs_meant struct_bytes struct_meant
structs-back [] = refl
structs-back (s ∷ ss) =
    ap₂ ◌∷◌ (struct_back s (stream_of (field_commands s.fields (struct_commands ss []))) (fields_in W.pool (field_commands s.fields (struct_commands ss []))) ∙ meant s (fields_back s.fields ss))
    (skip-fields 8 (λ x cs. struct_of W.pool (struct_at x) (fields_in W.pool cs)) refl s.fields (struct_commands ss []) ∙ structs-back ss)
  where
    meant : (s : StructCommand) {fs : List Field} → fs ≡ fields_meant s.fields → record { name = text_of W.pool s.name; slot = meant_text s.slot; version = meant_text s.version; fields = fs } ≡ struct_meant s
    meant s e = ap (λ (x : List Field). record { name = text_of W.pool s.name; slot = meant_text s.slot; version = meant_text s.version; fields = x }) e
