-- What is judged of a kind byte.
use Rattle.std.proofs.Common.{◌≡◌, ℕ, Bool, true, false, cond, Ok, Err, Result, refl, arith}
use Rattle.faults.specs.declared.layers.PortFault.{PortFault}
use Rattle.port.specs.Model.{Model}
use Rattle.reading.specs.Reading.{Step, fault, provided, Head, follows, room, admitted}
use Rattle.records.specs.Admission.{admission}

-- the first test that fails is the one that the reading tells
admitted_by : (s t : Bool) (d e : PortFault) (x : Step Head) (f : PortFault) → ◌≡◌ {A = Result (Unit {0}) PortFault} (cond s (cond t (Ok tt) (Err e)) (Err d)) (Err f) → provided s d (provided t e x) ≡ fault f
unfolding provided
admitted_by true true d e x f h = let z : ◌≡◌ {A = ℕ} 0 1 = cc in absurd (omega arith)
admitted_by true false d e x f h = cc
admitted_by false t d e x f h = cc

admitted_so : (s t : Bool) (d e : PortFault) (x : Step Head) (u : Unit {0}) → ◌≡◌ {A = Result (Unit {0}) PortFault} (cond s (cond t (Ok tt) (Err e)) (Err d)) (Ok u) → provided s d (provided t e x) ≡ x
unfolding provided
admitted_so true true d e x u h = refl
admitted_so true false d e x u h = let z : ◌≡◌ {A = ℕ} 0 1 = cc in absurd (omega arith)
admitted_so false t d e x u h = let z : ◌≡◌ {A = ℕ} 0 1 = cc in absurd (omega arith)

module _ (m : Model) (k p : ℕ) (x : Step Head) where
  pub admission_fault : (f : PortFault) → admission m k p ≡ Err f → admitted m k p x ≡ fault f
  unfolding admitted
  admission_fault f h = admitted_by (follows m k) (room m k) _ _ x f h

  pub admission_passed : (u : Unit {0}) → admission m k p ≡ Ok u → admitted m k p x ≡ x
  unfolding admitted
  admission_passed u h = admitted_so (follows m k) (room m k) _ _ x u h
