-- The forms in which examples are told, as rows of lists.
use Rattle.std.specs.Prelude.{◌≡◌, Bool, true, false, List}
use Rattle.port.specs.Limits.{In}

-- a proposition that holds, or does not, as the truth value says
abbrev pub Said : Bool → Type 0 → Type 0
Said true P = P
Said false P = P → ⊥

-- what a definition gives, the value that this is, and another that it is not
pub record Row (V : Type 0) : Type 0 where
  pub given : V
  pub is : V
  pub is_not : V

abbrev pub gives : {V : Type 0} → V → V → V → Row V
gives given is is_not = record { given = given; is = is; is_not = is_not }

abbrev pub Shown : {V : Type 0} → List (Row V) → Type 0
Shown {V} rows = (r : Row V) → In r rows → (r.given ≡ r.is) × (r.given ≡ r.is_not → ⊥)
