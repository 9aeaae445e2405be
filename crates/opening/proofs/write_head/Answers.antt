-- `opening::write_head` meets its contract: the five calls leave the written head, from which the opening is read. Assumes nothing.
use native.Mathlib.Omega.{arith}
use Rattle.opening.specs.HeadWritingLaws.{checked, few-first, few-second, first_fits, written-calls, written-opening, written_none, written-kept, written-length}
use Rattle.opening.proofs.write_head.Goals as goal

pub write_numbers-requires : goal.write_numbers-requires
write_numbers-requires c = record { head_bytes_in_bounds = omega arith; in_range = (checked _ _ _ _ c.requires.kept_value c.requires.second_value c.requires.names_value).ranges }

pub write_names-requires : goal.write_names-requires
write_names-requires c = let g = checked _ _ _ _ c.requires.kept_value c.requires.second_value c.requires.names_value in record { head_bytes_in_bounds = omega arith; head_bytes_in_bounds_2 = c.requires.head_bytes_in_bounds_2; n_bound = g.ranges.most-taxa }

pub write_first-requires : goal.write_first-requires
write_first-requires c = let g = checked _ _ _ _ c.requires.kept_value c.requires.second_value c.requires.names_value in record { head_bytes_in_bounds = omega arith; list_len_bound = few-first _ g; by_index = first_fits _ g }

pub write_second-requires : goal.write_second-requires
write_second-requires c = let g = checked _ _ _ _ c.requires.kept_value c.requires.second_value c.requires.names_value in record { head_bytes_in_bounds = omega arith; list_len_bound = few-second _ g }

pub returns : goal.returns
returns c =
    let g = checked _ _ _ _ c.requires.kept_value c.requires.second_value c.requires.names_value in
    let z = written-calls _ _ _ _ _ _ _ c.clear_run.ensures c.write_numbers.ensures c.write_names.ensures c.write_first.ensures c.write_second.ensures in
    let n = written_none _ _ g c.requires.head_bytes_in_bounds in record { s_after = z; s_after_2 = rw z (written-opening _ _ g c.requires.head_bytes_in_bounds); s_after_3 = rw z (n 10 (omega arith) (omega arith)); s_after_4 = rw z (n 12 (omega arith) (omega arith)); s_unchanged = rw z (written-kept _ _ g c.requires.head_bytes_in_bounds); s_len_unchanged = rw z (written-length _ _ g c.requires.head_bytes_in_bounds) }
