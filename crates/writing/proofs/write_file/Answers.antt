-- `writing::write_file` meets its contract: three parts, one after the other.
use mathlib.Core.Path.{◌≡◌, sym, ◌∙◌}
use native.Mathlib.Omega.{arith}
use lib.ListN.{length}
use lib.Seq.{length-take-le}
use Rattle.writing.specs.Writing.{file_length}
use Rattle.writing.proofs.FileWritten.{writable, header_kept, points_part, points_kept, entries_part, entries_held, file_written}
use Rattle.writing.proofs.write_file.Goals as goal

-- The book fits a file, which each of these needs.
pub overflow_cast-entries : goal.overflow_cast-entries
overflow_cast-entries c =
    let w = writable {b = c.args.book} c.requires.master_value c.requires.master_value_2 c.requires.journal_value in
    omega arith

pub overflow_mul-held : goal.overflow_mul-held
overflow_mul-held c =
    let w = writable {b = c.args.book} c.requires.master_value c.requires.master_value_2 c.requires.journal_value in
    omega arith

pub overflow_add-end : goal.overflow_add-end
overflow_add-end c =
    let w = writable {b = c.args.book} c.requires.master_value c.requires.master_value_2 c.requires.journal_value in
    omega arith

pub slice_bounds-encode_header-end-2 : goal.slice_bounds-encode_header-end-2
unfolding file_length
slice_bounds-encode_header-end-2 c = sym (length-take-le 7 c.args.output.now (omega arith))

pub slice_bounds-write_points-end : goal.slice_bounds-write_points-end
unfolding file_length
slice_bounds-write_points-end c =
    let w = writable {b = c.args.book} c.requires.master_value c.requires.master_value_2 c.requires.journal_value in
    let k = header_kept w c.args.output.now c.requires.book_in_bounds _ _ c.encode_header.ensures in
    omega arith

pub write_points-requires : goal.write_points-requires
write_points-requires c =
    let w = writable {b = c.args.book} c.requires.master_value c.requires.master_value_2 c.requires.journal_value in
    record {
      count_bound = w.count_most;
      points_value = w.points;
      output_len = points_part w c.args.output.now c.requires.book_in_bounds _ _ c.encode_header.ensures;
    }

pub slice_bounds-encode_header-end : goal.slice_bounds-encode_header-end
unfolding file_length
slice_bounds-encode_header-end c = omega arith

pub slice_bounds-copy_from_slice-end-2 : goal.slice_bounds-copy_from_slice-end-2
slice_bounds-copy_from_slice-end-2 c =
    let w = writable {b = c.args.book} c.requires.master_value c.requires.master_value_2 c.requires.journal_value in
    sym (entries_held w)

pub slice_bounds-copy_from_slice-end : goal.slice_bounds-copy_from_slice-end
unfolding file_length
slice_bounds-copy_from_slice-end c =
    let w = writable {b = c.args.book} c.requires.master_value c.requires.master_value_2 c.requires.journal_value in
    let size : length c.args.book.master.points ≡ 8 = omega arith in
    let k = points_kept w c.args.output.now c.requires.book_in_bounds _ _ c.encode_header.ensures size _ c.write_points.ensures in
    omega arith

pub copy_from_slice-requires : goal.copy_from_slice-requires
copy_from_slice-requires c =
    let w = writable {b = c.args.book} c.requires.master_value c.requires.master_value_2 c.requires.journal_value in
    let size : length c.args.book.master.points ≡ 8 = omega arith in
    entries_part w c.args.output.now c.requires.book_in_bounds _ _ c.encode_header.ensures size _ c.write_points.ensures
    ∙ sym (entries_held w)

pub returns : goal.returns
returns c =
    let w = writable {b = c.args.book} c.requires.master_value c.requires.master_value_2 c.requires.journal_value in
    let size : length c.args.book.master.points ≡ 8 = omega arith in
    file_written w c.args.output.now c.requires.book_in_bounds _ _ c.encode_header.ensures size _ c.write_points.ensures _
    c.copy_from_slice.ensures.after
