-- The host of a site: the object at each of its paths.
use Rattle.std.specs.Prelude.{option_map}
use Rattle.site_table.specs.Kinds.{is_dir}
use Rattle.site_table.specs.Table.{Site, kind_at}
use Rattle.path_settings.specs.view_map.Kept.{Host}

-- whether the site has a row at a path, and then whether it is a directory
abbrev pub host_of : Site → Host
host_of site path = option_map is_dir (kind_at site.rows path)
