use Rattle.std.proofs.Common.{◌+◌, ◌-◌, ◌*◌, length}
use Rattle.formula.proofs.Marked.+read_atom_read_product_read_sum.Given as goal

abbrev pub decreases-read_atom : goal.decreases-read_atom
decreases-read_atom l = 3 * (length l.self.now.text.now - l.place)

abbrev pub decreases-read_product : goal.decreases-read_product
decreases-read_product l = 3 * (length l.self.now.text.now - l.place) + 1

abbrev pub decreases-read_sum : goal.decreases-read_sum
decreases-read_sum l = 3 * (length l.self.now.text.now - l.place) + 2
