use Rattle.locks.proofs.Standing.{place_is, place_none, possible_means, possible_there}
use Rattle.locks.proofs.places.lookups_stand.Goals as goal

pub returns : goal.returns
returns c = λ M. record {
  found = λ m k e. place_is M.conditions m k e;
  missing = λ m k e a. place_none M.conditions m e k a.0 a.1;
  passes = λ k o. (possible_means M.moves k o, possible_there M.moves k o);
}
