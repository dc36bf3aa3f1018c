-- All that the definitions compute with: `unfolding definitions` opens it, for a case proved by computation.
use mathlib.Core.Logic.Dec
use native.Mathlib.Decide.{ℕ_discrete, dec_le, dec_lt}
use Rattle.standard.specs.Picture.{depth_of, divisors, rectangle, grown, address, left_of, above_of, merge_left, merge_up}
use Rattle.standard.specs.Sets.{switches_in, switches_of, largest}
use Rattle.standard.specs.Bins.{truncated, fixed_length, magnitudes, sign_bins, signs, rest, rest_of_cr, full, bits_of, bins_of, number, bytes_of, packed}
use Rattle.standard.specs.Samples.{shift_of, layout_of, offset_val, clip, band_idx, steps_of, sign, edge_idx, in_picture, counts, kept, neighbour, edge_idx_of, band_sample, edge_sample, modified, sample, tabulate, plane_by, filtered_plane}
use Rattle.standard.specs.Table.{switches_at, encode_offsets, encode, encode_entry, entry, entered, decode_offsets, decode, stored}
use Rattle.standard.proofs.Decisions.{or?, some?}
use Rattle.standard.proofs.Judging.{rules?, valid?, same_set?, same_bytes?}
use Rattle.standard.proofs.Reader.{read_ctu}
use Rattle.standard.proofs.Refusing.{unit_due?, open_verdict, read_verdict, write_verdict, deliver_verdict, filter_verdict, rows_verdict}

unfoldable pub definitions : Unit {0}
unfolding rules? unit_due? valid? same_set? same_bytes? ℕ_discrete dec_le dec_lt depth_of divisors rectangle grown address left_of above_of merge_left merge_up switches_in switches_of switches_at largest truncated fixed_length magnitudes sign_bins signs rest rest_of_cr full bits_of bins_of number bytes_of packed shift_of layout_of offset_val clip band_idx steps_of sign edge_idx in_picture counts kept neighbour edge_idx_of band_sample edge_sample modified sample tabulate plane_by filtered_plane encode_offsets encode encode_entry entry entered decode_offsets decode stored read_ctu Dec.and Dec.not or? some? open_verdict read_verdict write_verdict deliver_verdict filter_verdict rows_verdict
definitions = tt
