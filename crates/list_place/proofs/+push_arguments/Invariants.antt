-- The measure of `push_arguments`: the open applications.
use Rattle.list_place.proofs.+push_arguments.Given as goal

abbrev pub decreases-push_arguments : goal.decreases-push_arguments
decreases-push_arguments l = l.spine
