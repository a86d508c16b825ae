-- What the constructor of a region answers.
use Rattle.std.specs.Prelude.{◌≡◌, Bool, true, false, Ok, Err, Result}
use Rattle.mesh_stream.specs.declared.event.Point.{Point}
use Rattle.mesh_stream.specs.declared.fault.Refusal.{Refusal}
use Rattle.mesh_stream.specs.declared.fault.Refusal.TheVariants.{SettingNotAllowed}
use Rattle.mesh_stream.specs.Numbers.{refusal_number}

-- The set of each region of type R; whether the settings are allowed, and the set that they give.
module _ {R : Type 0} (inside : R → Point → Bool) (allowed : Bool) (set : Point → Bool) where
  pub record HasSet (r : R) : Type 0 where
    pub is_allowed : allowed ≡ true
    pub has_set : (at : Point) → inside r at ≡ set at

  pub record NotAllowed (e : Refusal) : Type 0 where
    pub not_allowed : allowed ≡ false
    pub why : e ≡ SettingNotAllowed
    pub number : refusal_number e ≡ 15

  abbrev pub Made : Result R Refusal → Type 0
  Made (Ok r) = HasSet r
  Made (Err e) = NotAllowed e
