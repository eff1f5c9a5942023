use Rattle.ra_book.proofs.CutBooks.{cut_cluster, cut_histories, cut_pairs}
use Rattle.ra_book.proofs.laws.cut_books.clusters_can_be_cut.Goals as goal

pub returns : goal.returns
returns c = record { cluster = cut_cluster; histories = cut_histories; pairs = cut_pairs }
